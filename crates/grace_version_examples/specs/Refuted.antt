-- Stores and readings that break demand 3, each refuted by one run, and a store that breaks what is promised of a fresh one. Assumes nothing.
use Rattle.std.specs.Prelude.{ℕ, ◌-◌, ◌≡◌, refl, List, [], ◌∷◌, ◌++◌, ℤ, pos, length, replicate}
use Rattle.std.proofs.Common.{arith}
use Rattle.std.proofs.Math.Option.{some}
use Rattle.base.specs.Rows.{any_below}
use Rattle.calls.specs.declared.Call.{Call}
use Rattle.calls.specs.declared.Call.TheVariants.{Enter, Look, Sync, Raise, Walk}
use Rattle.calls.specs.declared.Reply.{Reply}
use Rattle.calls.specs.declared.Reply.TheVariants.{Made, At, Pitch, Left, Claimed, Written, Swapped, Synced, Raised, Shared, Walked, Freed, Refused, Picked}
use Rattle.calls.specs.Numbers.{table_length, place_published, place_open}
use Rattle.calls.specs.Events.{Event}
use Rattle.calls.specs.Events.Event.{◌⇒◌}
use Rattle.calls.specs.FirstTable.{tables}
use Rattle.layout.specs.Layout.{readers, reader_at, publisher_at, with_reader, with_publisher, with_readers, fresh_words}
use Rattle.statement.specs.Machine.{State, state, Outcome, outcome, Given, given, Machine, events}
use Rattle.statement.specs.Demand3.{Demand3}
use Rattle.statement.specs.Companions.{MakesFresh}
use Rattle.statement.specs.Examples.{lent_for, enters, publication, given_feathered}
use Rattle.statement.specs.Refute.{some_leave, not_left, ReturnsFrom, returns_from_4}
use Rattle.publication_law.specs.Steps.{publisher}
use Rattle.publication_law.specs.Table.{damaged, step, making, machine}
use Rattle.publication_law.specs.SectionRules.{SectionRules, table_by}
use Rattle.publication_law.specs.Varied.{varied}
use Rattle.grace_version_law.specs.Steps.{onward, walk_result, looks_from, fixed, rules, GraceVersion}
use Rattle.grace_version_law.specs.Traits.{traits}
use Rattle.grace_version_law.proofs.Promises.{new_demand3}

-- One reader, one publisher, two slots, version 0.
small : Given
small = given_feathered 1 1 2 0

start : State
unfolding small
start = (making rules small (lent_for small)).after

-- A LOOK that always says 90000.
feathered : Reply → Reply
feathered Made = Made
feathered (At place) = At place
feathered (Pitch v) = Pitch (pos 90000)
feathered Left = Left
feathered (Claimed slot) = Claimed slot
feathered (Written n) = Written n
feathered (Swapped slot) = Swapped slot
feathered (Synced mark) = Synced mark
feathered Raised = Raised
feathered Shared = Shared
feathered (Walked walked) = Walked walked
feathered (Freed slot n) = Freed slot n
feathered (Refused n) = Refused n
feathered (Picked slot) = Picked slot

pub AlwaysFeathered : Machine
unfolding feathered
AlwaysFeathered = record { making = making rules; step = λ s c. outcome (feathered (step rules s c).reply) (step rules s c).after }

other_pitch : (v : ℤ) → Pitch (pos 90000) ≡ Pitch v → some (pos 100) ≡ some v → ⊥
other_pitch v e q = let same : ◌≡◌ {A = ℕ} 90000 100 = cc in omega arith

pub always_90000_refuted : Demand3 AlwaysFeathered (λ z. z.table) → ⊥
unfolding AlwaysFeathered start small reader_at publisher_at with_reader with_publisher with_readers fresh_words any_below damaged onward looks_from step making tables
always_90000_refuted promise =
    let cs : List Call = publication 0 1 (pos 100) ++ enters 5 0 in
    let shown = (promise start (record { arguments = small; lent = lent_for small; made = refl }) (cs ++ (Look 0 7 ∷ []))).looks (events AlwaysFeathered start cs) [] 0 7 (Pitch (pos 90000)) refl refl in
    other_pitch shown.0 shown.1 shown.2

-- A making that ignores the lent table: every slot is feathered.
abbrev feathered_instead : Given → Given
feathered_instead z = given_feathered z.readers z.publishers z.slots z.version

pub IgnoresTable : Machine
IgnoresTable = record { making = λ z s. making rules (feathered_instead z) s; step = step rules }

pub table_ignored_refuted : Demand3 IgnoresTable (λ z. z.table) → ⊥
unfolding IgnoresTable start small reader_at publisher_at with_reader with_publisher with_readers fresh_words any_below damaged onward looks_from step making tables
table_ignored_refuted promise =
    let z : Given = given 1 1 2 0 (replicate table_length (pos 100)) in
    let cs : List Call = enters 5 0 in
    let shown = (promise start (record { arguments = z; lent = lent_for z; made = refl }) (cs ++ (Look 0 7 ∷ []))).looks (events IgnoresTable start cs) [] 0 7 (Pitch (pos 90000)) refl refl in
    other_pitch shown.0 shown.1 shown.2

-- A making that puts the table into slot 0 alone. Demand 3 cannot tell: no reader picks another slot before it is written.
abbrev slot0_alone : Given → Outcome → Outcome
slot0_alone z o = outcome o.reply (state o.after.words (z.table ++ replicate (length o.after.entries - table_length) (pos 0)))

pub Slot0Alone : Machine
Slot0Alone = record { making = λ z s. slot0_alone z (making rules z s); step = step rules }

pub slot_0_alone_refuted : MakesFresh Slot0Alone traits.every → ⊥
unfolding Slot0Alone small reader_at publisher_at with_reader with_publisher with_readers fresh_words any_below damaged step making tables
slot_0_alone_refuted promise =
    let found : pos 0 ≡ pos 90000 = (promise (Slot0Alone.making small (lent_for small)).after (record { arguments = small; lent = lent_for small; made = refl })).entries_are 1 0 (omega arith) (omega arith) in
    let same : ◌≡◌ {A = ℕ} 0 90000 = cc in
    omega arith

-- A walk that passes every reader: it tests against 0 in place of its mark.
passes_all_rules : SectionRules
passes_all_rules = varied fixed fixed.exclusive (λ s p b.
    let walk = (publisher s p).walk in
    let result = looks_from s.words (readers s.words) 0 walk.waits b walk.next walk.looks in
    walk_result walk.mark result.walk.next result.walk.looks result.walk.waits result.reply)

pub PassesAll : Machine
unfolding passes_all_rules
PassesAll = machine (table_by passes_all_rules)

pub passes_all_refuted : Demand3 PassesAll (λ z. z.table) → ⊥
unfolding PassesAll passes_all_rules start small some_leave reader_at publisher_at with_reader with_publisher with_readers fresh_words any_below damaged onward looks_from step making tables
passes_all_refuted promise =
    let cs : List Call = enters 5 0 ++ publication 0 1 (pos 100) in
    let mid : List Event = (Raise 0 ⇒ Raised) ∷ [] in
    not_left 0 mid refl
    ((promise start (record { arguments = small; lent = lent_for small; made = refl }) (cs ++ (Sync 0 ∷ Raise 0 ∷ Walk 0 9 ∷ []))).returns (events PassesAll start cs) mid [] 0 9 1 0 0 (Synced 1) refl refl refl)

-- Counting a section as open from its first publishing, the ENTER that replies 2: P4's run breaks it for the new store.
pub early_sections_refuted : ReturnsFrom place_published GraceVersion → ⊥
unfolding start small some_leave reader_at publisher_at with_reader with_publisher with_readers fresh_words any_below damaged onward looks_from step making tables
early_sections_refuted promise =
    let cs : List Call = enters 2 0 ++ publication 0 1 (pos 100) in
    let mid : List Event = (Raise 0 ⇒ Raised) ∷ (Enter 0 ⇒ At 3) ∷ (Enter 0 ⇒ At 4) ∷ [] in
    not_left 0 mid refl
    (promise start (record { arguments = small; lent = lent_for small; made = refl }) (cs ++ (Sync 0 ∷ Raise 0 ∷ Enter 0 ∷ Enter 0 ∷ Walk 0 1 ∷ [])) (events GraceVersion start cs) mid [] 0 1 1 0 0 (Synced 1) refl refl refl)

-- From the ENTER that replies 4 it holds: that is demand 3's own word.
pub sections_from_4 : ReturnsFrom place_open GraceVersion
sections_from_4 = returns_from_4 GraceVersion (λ z. z.table) new_demand3
