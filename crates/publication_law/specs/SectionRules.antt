-- A kind with sections, SYNC and WALK: what it fixes, and the table that this gives.
use Rattle.std.specs.Prelude.{ℕ, Bool, true, false, List, []}
use Rattle.base.specs.Rows.{Test}
use Rattle.calls.specs.declared.Call.{Call}
use Rattle.calls.specs.declared.Call.TheVariants.{Enter, Look, Leave, Claim, Write, Swap, Sync, Raise, Walk, Release, Pick, Checkpoint, Defer}
use Rattle.calls.specs.declared.Reply.TheVariants.{At, Left, Refused}
use Rattle.calls.specs.Numbers.{damaged_number}
use Rattle.layout.specs.declared.Reader.{Reader}
use Rattle.layout.specs.declared.WalkResult.{WalkResult}
use Rattle.statement.specs.Machine.{State, state, Outcome, outcome, retires}
use Rattle.publication_law.specs.Steps.{enter_tests, look_tests, look, leave_tests, claim_tests, claim, write_tests, write, swap_tests, swap, sync_tests, sync, raise_tests, raise, walk_tests, walk, release_tests, release, making_tests, made}
use Rattle.publication_law.specs.Damage.{DamageRules}
use Rattle.publication_law.specs.Table.{Table}

pub record SectionRules : Type 0 where
  -- its number, its versions, and what damages a reader and a publisher
  pub damage : DamageRules
  -- what damages it besides
  pub further : State → Bool
  -- a reader of a fresh store
  pub fresh_reader : Reader
  -- ENTER: the reader one place on, and the words with it
  pub entered : State → ℕ → Reader
  pub enter_words : State → ℕ → List ℕ
  -- LEAVE: the words with the reader at place 0
  pub leave_words : State → ℕ → List ℕ
  -- whether a CLAIM needs every other publisher at place 0 (number 31)
  pub exclusive : Bool
  -- the places at which RAISE and WALK are allowed
  pub raises_at : ℕ → Bool
  pub walks_at : ℕ → Bool
  -- what a WALK of publisher p by up to b looks gives
  pub looks : State → ℕ → ℕ → WalkResult

-- The calls of loops that never enter a section.
abbrev pub without_sections : Call → Bool
without_sections (Enter r) = false
without_sections (Look r k) = false
without_sections (Leave r) = false
without_sections (Claim p slot) = false
without_sections (Write p v) = false
without_sections (Swap p) = false
without_sections (Sync p) = false
without_sections (Raise p) = false
without_sections (Walk p b) = false
without_sections (Release p) = false
without_sections (Pick r) = true
without_sections (Checkpoint r) = true
without_sections (Defer p) = true

module _ (R : SectionRules) where
  -- Each call's rows in the order of document 01's table ..
  abbrev tests_by : State → Call → List Test
  tests_by s (Enter r) = enter_tests s r
  tests_by s (Look r k) = look_tests s r k
  tests_by s (Leave r) = leave_tests s r
  tests_by s (Claim p slot) = claim_tests R.exclusive (retires R.damage.number) s p slot
  tests_by s (Write p v) = write_tests s p v
  tests_by s (Swap p) = swap_tests s p
  tests_by s (Sync p) = sync_tests R.damage.versions s p
  tests_by s (Raise p) = raise_tests R.raises_at s p
  tests_by s (Walk p b) = walk_tests R.walks_at s p b
  tests_by s (Release p) = release_tests s p
  tests_by s (Pick r) = []
  tests_by s (Checkpoint r) = []
  tests_by s (Defer p) = []

  -- .. and what it does where none applies. (Of a call that is lacking row 1 always applies.)
  abbrev act_by : State → Call → Outcome
  act_by s (Enter r) = outcome (At (R.entered s r).place) (state (R.enter_words s r) s.entries)
  act_by s (Look r k) = look s r k
  act_by s (Leave r) = outcome Left (state (R.leave_words s r) s.entries)
  act_by s (Claim p slot) = claim s p slot
  act_by s (Write p v) = write s p v
  act_by s (Swap p) = swap s p
  act_by s (Sync p) = sync R.damage.versions s p
  act_by s (Raise p) = raise R.damage.versions s p
  act_by s (Walk p b) = walk s p (R.looks s p b)
  act_by s (Release p) = release s p
  act_by s (Pick r) = outcome (Refused damaged_number) s
  act_by s (Checkpoint r) = outcome (Refused damaged_number) s
  act_by s (Defer p) = outcome (Refused damaged_number) s

-- It lacks the calls of loops that never enter a section.
abbrev pub table_by : SectionRules → Table
table_by R = record {
  damage = R.damage;
  further = R.further;
  lacks = without_sections;
  tests = tests_by R;
  act = act_by R;
  making_tests = λ z s. making_tests false R.damage.versions z s;
  fresh_store = λ z s. made R.damage.number R.fresh_reader z s;
}
