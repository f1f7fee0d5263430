-- A call with its reply, and what a reply says.
use Rattle.std.specs.Prelude.{ℕ, Bool, true, false, List, [], ◌∷◌}
use Rattle.std.proofs.Math.Option.{Option, none, some}
use Rattle.base.specs.Base.{choose}
use Rattle.calls.specs.declared.Call.{Call}
use Rattle.calls.specs.declared.Reply.{Reply}
use Rattle.calls.specs.declared.Reply.TheVariants.{Made, At, Pitch, Left, Claimed, Written, Swapped, Synced, Raised, Shared, Walked, Freed, Refused, Picked}
use Rattle.calls.specs.declared.WalkReply.{WalkReply}

infix 70 ◌⇒◌
pub data Event : Type 0 where
  ◌⇒◌ : Call → Reply → Event

-- Every call that is not refused is accepted.
abbrev pub accepted : Reply → Bool
accepted Made = true
accepted (At place) = true
accepted (Pitch v) = true
accepted Left = true
accepted (Claimed slot) = true
accepted (Written n) = true
accepted (Swapped slot) = true
accepted (Synced mark) = true
accepted Raised = true
accepted Shared = true
accepted (Walked walked) = true
accepted (Freed slot n) = true
accepted (Refused n) = false
accepted (Picked slot) = true

-- The place that an ENTER or a DEFER replies, and the step that a CHECKPOINT does.
abbrev pub place_of : Reply → Option ℕ
place_of Made = none
place_of (At place) = some place
place_of (Pitch v) = none
place_of Left = none
place_of (Claimed slot) = none
place_of (Written n) = none
place_of (Swapped slot) = none
place_of (Synced mark) = none
place_of Raised = none
place_of Shared = none
place_of (Walked walked) = none
place_of (Freed slot n) = none
place_of (Refused n) = none
place_of (Picked slot) = none

-- What a WALK replies.
abbrev pub walk_of : Reply → Option WalkReply
walk_of Made = none
walk_of (At place) = none
walk_of (Pitch v) = none
walk_of Left = none
walk_of (Claimed slot) = none
walk_of (Written n) = none
walk_of (Swapped slot) = none
walk_of (Synced mark) = none
walk_of Raised = none
walk_of Shared = none
walk_of (Walked walked) = some walked
walk_of (Freed slot n) = none
walk_of (Refused n) = none
walk_of (Picked slot) = none

-- One event: an accepted one moves the value by f, a refused one leaves it. Then all, in order.
abbrev pub moved_by : {A : Type 0} → (A → Call → Reply → A) → A → Event → A
moved_by f now (c ⇒ a) = choose (accepted a) (f now c a) now

abbrev pub fold_events : {A : Type 0} → (A → Call → Reply → A) → A → List Event → A
fold_events f now [] = now
fold_events f now (e ∷ es) = fold_events f (moved_by f now e) es
