-- A kind of store as a table: what damages a store, the calls that the kind lacks, the rows and the act of each call, the rows of making and the fresh store;
-- and from the table its damage test, its steps and its making.
use Rattle.std.specs.Prelude.{Bool, ◌||◌, List, ◌∷◌}
use Rattle.base.specs.Rows.{Test}
use Rattle.base.specs.Rows.Test.{◌gives◌}
use Rattle.calls.specs.declared.Call.{Call}
use Rattle.calls.specs.declared.Reply.TheVariants.{Made}
use Rattle.calls.specs.Numbers.{damaged_number}
use Rattle.statement.specs.Machine.{State, Outcome, outcome, Given, Machine}
use Rattle.publication_law.specs.Steps.{decide}
use Rattle.publication_law.specs.Damage.{DamageRules, shared_damage}

pub record Table : Type 0 where
  -- its number, its versions, and what damages a reader and a publisher
  pub damage : DamageRules
  -- what damages it besides
  pub further : State → Bool
  -- the calls that it lacks
  pub lacks : Call → Bool
  -- each call's rows in the order of document 01's table, and what it does where none applies
  pub tests : State → Call → List Test
  pub act : State → Call → Outcome
  -- the rows of making, and the fresh store
  pub making_tests : Given → State → List Test
  pub fresh_store : Given → State → State

module _ (T : Table) where
  -- Document 01's spoiled: the shared rows, or what the kind adds.
  unfoldable pub damaged : State → Bool
  damaged s = shared_damage T.damage s || T.further s

  -- Any call but making: 1 a call that the kind lacks or a damaged store, before all else.
  abbrev pub rows : State → Call → List Test
  rows s c = ((T.lacks c || damaged s) gives damaged_number) ∷ T.tests s c

  unfoldable pub step : State → Call → Outcome
  step s c = decide (rows s c) (T.act s c) s

  unfoldable pub making : Given → State → Outcome
  making z s = decide (T.making_tests z s) (outcome Made (T.fresh_store z s)) s

  abbrev pub machine : Machine
  machine = record { making = making; step = step }
