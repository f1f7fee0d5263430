-- Stores that break demand 3, each refuted by one run: each differs from the rest store in one act, what CHECKPOINT frees or what DEFER does at 35. Assumes nothing.
-- The first three free a slot that participant 1 has picked and not dropped; the last frees none, which breaks what is told of slots and that a slot is surely freed.
use Rattle.std.specs.Prelude.{ℕ, ◌+◌, ◌≡◌, refl, List, [], ◌∷◌, ◌++◌, pos, eqb}
use Rattle.std.proofs.Common.{arith}
use Rattle.base.specs.Base.{choose}
use Rattle.base.specs.Rows.{any_below}
use Rattle.base.specs.RowLaws.{clash}
use Rattle.calls.specs.declared.Call.{Call}
use Rattle.calls.specs.declared.Call.TheVariants.{Enter, Look, Leave, Claim, Write, Swap, Sync, Raise, Walk, Release, Pick, Checkpoint, Defer}
use Rattle.calls.specs.declared.Reply.TheVariants.{At, Claimed, Refused}
use Rattle.calls.specs.Numbers.{place_idle, place_swapped}
use Rattle.calls.specs.Events.{Event}
use Rattle.calls.specs.Events.Event.{◌⇒◌}
use Rattle.calls.specs.FirstTable.{tables}
use Rattle.layout.specs.Layout.{readers, reader_at, publisher_at, retirement_at, retired_at, with_reader, with_publisher, with_retirement, with_retired, with_readers, fresh_words}
use Rattle.layout.specs.Records.{◌second≔◌, ◌published≔◌, ◌at_place◌, ◌step≔◌, ◌count≔◌}
use Rattle.statement.specs.Machine.{State, state, Outcome, outcome, Given, Machine, events}
use Rattle.statement.specs.Demand3.{Demand3}
use Rattle.statement.specs.Quiescent.{NotBegun, FreesSurely}
use Rattle.statement.specs.Examples.{lent_for, given_feathered}
use Rattle.publication_law.specs.Steps.{reader, publisher}
use Rattle.publication_law.specs.Table.{Table, damaged, step, making, machine}
use Rattle.qsbr_law.specs.Steps.{retirement, least_read, Stay, staying, checkpoint, raise_epoch, defer, act, rules}
use Rattle.qsbr_examples.specs.Examples.{checkpoints, deferral}

-- The rest store with another CHECKPOINT and another DEFER.
abbrev act_with : (State → ℕ → Outcome) → (State → ℕ → Outcome) → State → Call → Outcome
act_with checkpointed deferred s (Enter r) = act s (Enter r)
act_with checkpointed deferred s (Look r k) = act s (Look r k)
act_with checkpointed deferred s (Leave r) = act s (Leave r)
act_with checkpointed deferred s (Claim p slot) = act s (Claim p slot)
act_with checkpointed deferred s (Write p v) = act s (Write p v)
act_with checkpointed deferred s (Swap p) = act s (Swap p)
act_with checkpointed deferred s (Sync p) = act s (Sync p)
act_with checkpointed deferred s (Raise p) = act s (Raise p)
act_with checkpointed deferred s (Walk p b) = act s (Walk p b)
act_with checkpointed deferred s (Release p) = act s (Release p)
act_with checkpointed deferred s (Pick r) = act s (Pick r)
act_with checkpointed deferred s (Checkpoint r) = checkpointed s r
act_with checkpointed deferred s (Defer p) = deferred s p

abbrev pub rules_with : (State → ℕ → Outcome) → (State → ℕ → Outcome) → Table
rules_with checkpointed deferred = record {
  damage = rules.damage;
  further = rules.further;
  lacks = rules.lacks;
  tests = rules.tests;
  act = act_with checkpointed deferred;
  making_tests = rules.making_tests;
  fresh_store = rules.fresh_store;
}

-- A CHECKPOINT whose last step frees each slot whose mark is at most another number than the least read.
abbrev freed_up_to : (State → ℕ → ℕ) → State → ℕ → Stay
freed_up_to bound s r = staying r (bound s r) (retirement s r).count 0 0 (with_reader s.words r (reader s r second≔ least_read s r))

abbrev pub frees_up_to : (State → ℕ → ℕ) → State → ℕ → Outcome
frees_up_to bound s r = choose (eqb (retirement s r).step (readers s.words + 1))
    (outcome (At ((retirement s r).step + 1)) (state (with_retirement (freed_up_to bound s r).words r (retirement s r step≔ 0 count≔ (freed_up_to bound s r).count)) s.entries))
    (checkpoint s r)

-- Two participants, three slots, version 0.
abbrev two : Given
two = given_feathered 2 2 3 0

-- Participant 1 picks slot 0; participant 0 publishes and defers that slot; then it makes a whole checkpoint.
abbrev to_deferred : List Call
to_deferred = Pick 1 ∷ deferral 0 1 (pos 100)

abbrev to_checkpointed : List Call
to_checkpointed = to_deferred ++ checkpoints 4 0

-- A DEFER that frees at once: at 35 it observes its mark, and queues nothing.
abbrev queueless : State → ℕ → Outcome
queueless s p = outcome (At place_idle) (state (with_publisher (with_reader s.words p (reader s p published≔ (publisher s p).walk.mark)) p (publisher s p at_place place_idle)) s.entries)

pub FreesAtOnce : Machine
FreesAtOnce = machine (rules_with checkpoint (λ s p. choose (eqb (publisher s p).place place_swapped) (raise_epoch s p) (queueless s p)))

pub frees_at_once_refuted : Demand3 FreesAtOnce (λ z. z.table) → ⊥
unfolding FreesAtOnce reader_at publisher_at retirement_at retired_at with_reader with_publisher with_retirement with_retired with_readers fresh_words any_below damaged staying step making tables
frees_at_once_refuted promise =
    let start : State = (FreesAtOnce.making two (lent_for two)).after in
    (promise start (record { arguments = two; lent = lent_for two; made = refl }) (to_deferred ++ (Claim 0 0 ∷ []))).claims (events FreesAtOnce start to_deferred) [] 0 0 1 (Claimed 0) refl refl refl

-- Freeing by one's own epoch: a mark of at most what the participant itself has observed.
pub FreesByOwn : Machine
FreesByOwn = machine (rules_with (frees_up_to (λ s r. (reader s r).published)) defer)

pub frees_by_own_refuted : Demand3 FreesByOwn (λ z. z.table) → ⊥
unfolding FreesByOwn reader_at publisher_at retirement_at retired_at with_reader with_publisher with_retirement with_retired with_readers fresh_words any_below damaged staying step making tables
frees_by_own_refuted promise =
    let start : State = (FreesByOwn.making two (lent_for two)).after in
    (promise start (record { arguments = two; lent = lent_for two; made = refl }) (to_checkpointed ++ (Claim 0 0 ∷ []))).claims (events FreesByOwn start to_checkpointed) [] 0 0 1 (Claimed 0) refl refl refl

-- Freeing one too early: a mark of at most the least read and one.
pub FreesOneAbove : Machine
FreesOneAbove = machine (rules_with (frees_up_to (λ s r. least_read s r + 1)) defer)

pub frees_one_above_refuted : Demand3 FreesOneAbove (λ z. z.table) → ⊥
unfolding FreesOneAbove reader_at publisher_at retirement_at retired_at with_reader with_publisher with_retirement with_retired with_readers fresh_words any_below damaged staying step making tables
frees_one_above_refuted promise =
    let start : State = (FreesOneAbove.making two (lent_for two)).after in
    (promise start (record { arguments = two; lent = lent_for two; made = refl }) (to_checkpointed ++ (Claim 0 0 ∷ []))).claims (events FreesOneAbove start to_checkpointed) [] 0 0 1 (Claimed 0) refl refl refl

-- A store that never frees: no mark is 0.
pub NeverFrees : Machine
NeverFrees = machine (rules_with (frees_up_to (λ s r. 0)) defer)

-- One participant, two slots, version 0: it defers slot 0 and makes a whole checkpoint.
abbrev one : Given
one = given_feathered 1 1 2 0

abbrev alone : List Call
alone = deferral 0 1 (pos 100) ++ checkpoints 3 0

-- By the calls it holds the slot no more, and the store says that it does.
pub never_frees_refuted : Demand3 NeverFrees (λ z. z.table) → ⊥
unfolding NeverFrees reader_at publisher_at retirement_at retired_at with_reader with_publisher with_retirement with_retired with_readers fresh_words any_below damaged staying step making tables
never_frees_refuted promise =
    let start : State = (NeverFrees.making one (lent_for one)).after in
    clash ((promise start (record { arguments = one; lent = lent_for one; made = refl }) alone).slots.held 0 0)

-- Nor is the slot claimed, though everybody has observed its mark. Between the first and the last step there is one event, the second step, and no checkpoint begins there.
second_step : NotBegun 0 ((Checkpoint 0 ⇒ At 2) ∷ [])
second_step [] post e = let same : ◌≡◌ {A = ℕ} 2 1 = cc in omega arith
second_step (first ∷ []) post e = let none : ◌≡◌ {A = ℕ} 0 1 = cc in omega arith
second_step (first ∷ next ∷ pre) post e = let none : ◌≡◌ {A = ℕ} 0 1 = cc in omega arith

pub never_frees_not_surely : FreesSurely NeverFrees → ⊥
unfolding NeverFrees second_step reader_at publisher_at retirement_at retired_at with_reader with_publisher with_retirement with_retired with_readers fresh_words any_below damaged staying step making tables
never_frees_not_surely promise =
    let start : State = (NeverFrees.making one (lent_for one)).after in
    let before : List Event = events NeverFrees start (deferral 0 1 (pos 100)) in
    let due : Refused 30 ≡ Claimed 0 = (promise start (record { arguments = one; lent = lent_for one; made = refl }) alone before ((Checkpoint 0 ⇒ At 2) ∷ []) 0 0 1 refl (λ q low apart. absurd (apart (omega arith))) refl second_step).claimed 0 (omega arith) refl in
    let none : ◌≡◌ {A = ℕ} 0 1 = cc in
    omega arith
