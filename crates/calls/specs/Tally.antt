-- What the companions of demand 3 count and order, told by the calls alone.
use Rattle.std.specs.Prelude.{ℕ, suc, Bool, List, eqb}
use Rattle.std.proofs.Math.Option.{Option, none, some}
use Rattle.base.specs.Base.{choose, upd, is}
use Rattle.calls.specs.declared.Call.{Call}
use Rattle.calls.specs.declared.Call.TheVariants.{Enter, Look, Leave, Claim, Write, Swap, Sync, Raise, Walk, Release, Pick, Checkpoint, Defer}
use Rattle.calls.specs.declared.Reply.{Reply}
use Rattle.calls.specs.declared.WalkReply.{WalkReply}
use Rattle.calls.specs.declared.WalkReply.TheVariants.{Waiting, Spent, Quiet, Returned}
use Rattle.calls.specs.Numbers.{place_out, place_picked, place_idle, place_claimed, place_swapped, place_synchronising, place_quiet, place_raised, place_returned, place_deferring}
use Rattle.calls.specs.Events.{Event, place_of, walk_of, fold_events}

-- What a publisher did last, of CLAIM, SWAP, SYNC, a WALK that replied quiet, RAISE, a WALK that returned and RELEASE; idle after a RELEASE, and if nothing yet.
-- A DEFER that replied 35 begins what SYNC begins, one that replied 0 ends it as RELEASE does.
pub data Phase : Type 0 where
  idle : Phase
  writing : Phase
  swapped : Phase
  synchronising : Phase
  quiet : Phase
  raised : Phase
  returned : Phase

-- The place with which a phase begins; whether a phase is that one.
abbrev pub first_place : Phase → ℕ
first_place idle = place_idle
first_place writing = place_claimed
first_place swapped = place_swapped
first_place synchronising = place_synchronising
first_place quiet = place_quiet
first_place raised = place_raised
first_place returned = place_returned

abbrev pub in_phase : Phase → Phase → Bool
in_phase that phase = eqb (first_place phase) (first_place that)

pub record Tally : Type 0 where
  -- the place that a reader's last ENTER replied, 5 after a PICK, and 0 at the start, after a LEAVE and after the CHECKPOINT or DEFER that drops the pick
  pub place : ℕ → ℕ
  pub phase : ℕ → Phase
  -- how often a publisher's WALK replied waiting since its last SYNC
  pub waits : ℕ → ℕ
  -- how many RELEASEs were accepted
  pub releases : ℕ

abbrev pub tally₀ : Tally
tally₀ = record { place = λ r. place_out; phase = λ p. idle; waits = λ p. 0; releases = 0 }

abbrev pub with_place : Tally → ℕ → Option ℕ → Tally
with_place u r none = u
with_place u r (some place) = record { place = upd u.place r place; phase = u.phase; waits = u.waits; releases = u.releases }

abbrev pub with_phase : Tally → ℕ → Phase → Tally
with_phase u p phase = record { place = u.place; phase = upd u.phase p phase; waits = u.waits; releases = u.releases }

abbrev pub with_waits : Tally → ℕ → ℕ → Tally
with_waits u p n = record { place = u.place; phase = u.phase; waits = upd u.waits p n; releases = u.releases }

abbrev pub with_release_count : Tally → ℕ → Tally
with_release_count u n = record { place = u.place; phase = u.phase; waits = u.waits; releases = n }

abbrev pub with_walk : Tally → ℕ → Option WalkReply → Tally
with_walk u p none = u
with_walk u p (some (Waiting awaited)) = with_waits u p (suc (u.waits p))
with_walk u p (some Spent) = u
with_walk u p (some Quiet) = with_phase u p quiet
with_walk u p (some (Returned looks waits)) = with_phase u p returned

-- CHECKPOINT that replied step 1 drops the pick; DEFER that replied 35 too.
abbrev pub with_checkpoint : Tally → ℕ → Option ℕ → Tally
with_checkpoint u r step = choose (is step 1) (with_place u r (some place_out)) u

abbrev pub with_defer : Tally → ℕ → Option ℕ → Tally
with_defer u p place = choose (is place place_deferring) (with_phase (with_place u p (some place_out)) p synchronising) (with_phase u p idle)

abbrev pub tally : Tally → Call → Reply → Tally
tally u (Enter r) a = with_place u r (place_of a)
tally u (Look r k) a = u
tally u (Leave r) a = with_place u r (some place_out)
tally u (Claim p slot) a = with_phase u p writing
tally u (Write p v) a = u
tally u (Swap p) a = with_phase u p swapped
tally u (Sync p) a = with_waits (with_phase u p synchronising) p 0
tally u (Raise p) a = with_phase u p raised
tally u (Walk p b) a = with_walk u p (walk_of a)
tally u (Release p) a = with_release_count (with_phase u p idle) (suc u.releases)
tally u (Pick r) a = with_place u r (some place_picked)
tally u (Checkpoint r) a = with_checkpoint u r (place_of a)
tally u (Defer p) a = with_defer u p (place_of a)

abbrev pub tally_of : List Event → Tally
tally_of es = fold_events tally tally₀ es
