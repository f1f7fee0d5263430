-- Demand 3's words, told by the calls alone: which sections are open, what is picked, and who holds which slot.
use Rattle.std.specs.Prelude.{ℕ, Bool, true, false, not, ◌&&◌, ◌||◌, List, ◌≡◌, eqb}
use Rattle.std.proofs.Math.Option.{Option, none, some}
use Rattle.base.specs.Base.{choose, upd, is}
use Rattle.calls.specs.declared.Call.{Call}
use Rattle.calls.specs.declared.Call.TheVariants.{Enter, Look, Leave, Claim, Write, Swap, Sync, Raise, Walk, Release, Pick, Checkpoint, Defer}
use Rattle.calls.specs.declared.Reply.{Reply}
use Rattle.calls.specs.Numbers.{place_open, place_picked, place_deferring}
use Rattle.calls.specs.Events.{Event, place_of, fold_events}
use Rattle.calls.specs.Deferral.{Deferral, deferral₀, after_pick_of, freed_by, after_step, after_raise, after_queue}

pub record Told : Type 0 where
  -- whose section is open
  pub inside : ℕ → Bool
  -- the slot that a reader picked, in its section or without one
  pub picked : ℕ → Option ℕ
  -- the current slot
  pub current : Option ℕ
  -- the slot of a publisher's last accepted CLAIM, and the slots of its CLAIMs since its last SWAP
  pub last_claim : ℕ → Option ℕ
  pub claimed : ℕ → ℕ → Bool
  -- the slots that were current just before an accepted SWAP of a publisher's own, until its RELEASE or the CHECKPOINT that frees them
  pub former : ℕ → ℕ → Bool
  -- quiescent states and deferred slots, in a kind whose loops never enter a section
  pub deferral : Deferral

-- Slot 0 is current at first; n is the number of participants, which the making gives.
abbrev pub told₀ : ℕ → Told
told₀ n = record { inside = λ r. false; picked = λ r. none; current = some 0; last_claim = λ p. none; claimed = λ p slot. false; former = λ p slot. false; deferral = deferral₀ n }

-- A reader's section, and what it picked in it.
abbrev pub with_section : Told → ℕ → Bool → Option ℕ → Told
with_section t r inside picked = record {
  inside = upd t.inside r inside;
  picked = upd t.picked r picked;
  current = t.current;
  last_claim = t.last_claim;
  claimed = t.claimed;
  former = t.former;
  deferral = t.deferral;
}

-- A section is open from the ENTER that replies place 4. Its pick is the ENTER that replies place 5, and takes the slot then current.
abbrev pub after_enter : Told → ℕ → Option ℕ → Told
after_enter t r place = choose (is place place_open) (with_section t r true none) (choose (is place place_picked) (with_section t r (t.inside r) t.current) t)

-- A publisher holds a slot from its accepted CLAIM ..
abbrev pub after_claim : Told → ℕ → ℕ → Told
after_claim t p slot = record {
  inside = t.inside;
  picked = t.picked;
  current = t.current;
  last_claim = upd t.last_claim p (some slot);
  claimed = upd t.claimed p (λ other. eqb slot other || t.claimed p other);
  former = t.former;
  deferral = t.deferral;
}

-- .. until its next accepted SWAP, which makes current the slot of that publisher's last accepted CLAIM;
-- and the slot current just before an accepted SWAP of its own from then ..
abbrev pub after_swap : Told → ℕ → Told
after_swap t p = record {
  inside = t.inside;
  picked = t.picked;
  current = t.last_claim p;
  last_claim = t.last_claim;
  claimed = upd t.claimed p (λ slot. false);
  former = upd t.former p (λ slot. is t.current slot || t.former p slot);
  deferral = t.deferral;
}

-- .. until its next accepted RELEASE ..
abbrev pub after_release : Told → ℕ → Told
after_release t p = record {
  inside = t.inside;
  picked = t.picked;
  current = t.current;
  last_claim = t.last_claim;
  claimed = t.claimed;
  former = upd t.former p (λ slot. false);
  deferral = t.deferral;
}

-- .. or, where it deferred the slot, until the CHECKPOINT that frees it.
abbrev pub with_deferral : Told → (ℕ → Option ℕ) → (ℕ → ℕ → Bool) → Deferral → Told
with_deferral t picked former deferral = record {
  inside = t.inside;
  picked = picked;
  current = t.current;
  last_claim = t.last_claim;
  claimed = t.claimed;
  former = former;
  deferral = deferral;
}

-- PICK takes the slot then current, without a section.
abbrev pub after_pick : Told → ℕ → Told
after_pick t r = with_deferral t (upd t.picked r t.current) t.former (after_pick_of t.deferral r t.current)

-- The CHECKPOINT that replies 1 drops the pick, and so does the DEFER that replies 35.
abbrev pub dropped_if : Bool → Told → ℕ → ℕ → Option ℕ
dropped_if drops t r = choose drops (upd t.picked r none) t.picked

abbrev pub after_checkpoint : Told → ℕ → Option ℕ → Told
after_checkpoint t r none = t
after_checkpoint t r (some k) = with_deferral t (dropped_if (eqb k 1) t r) (upd t.former r (λ slot. not (freed_by t.deferral r k slot) && t.former r slot)) (after_step t.deferral r k)

abbrev pub after_defer : Told → ℕ → Option ℕ → Told
after_defer t p place =
    let raises = is place place_deferring in
    with_deferral t (dropped_if raises t p) t.former (choose raises (after_raise t.deferral p) (after_queue t.deferral p (t.former p)))

abbrev pub tell : Told → Call → Reply → Told
tell t (Enter r) a = after_enter t r (place_of a)
tell t (Look r k) a = t
tell t (Leave r) a = with_section t r false none
tell t (Claim p slot) a = after_claim t p slot
tell t (Write p v) a = t
tell t (Swap p) a = after_swap t p
tell t (Sync p) a = t
tell t (Raise p) a = t
tell t (Walk p b) a = t
tell t (Release p) a = after_release t p
tell t (Pick r) a = after_pick t r
tell t (Checkpoint r) a = after_checkpoint t r (place_of a)
tell t (Defer p) a = after_defer t p (place_of a)

-- What the events tell, where the store was made for n participants.
abbrev pub told_by : ℕ → List Event → Told
told_by n es = fold_events tell (told₀ n) es

abbrev pub holds : Told → ℕ → ℕ → Bool
holds t p slot = t.claimed p slot || t.former p slot

-- A slot's role: current, held by a publisher, or free. Every slot that is neither of the first two is free.
pub data Role : Type 0 where
  current : Role
  held_by : ℕ → Role
  free : Role

abbrev pub Has : Told → ℕ → Role → Type 0
Has t slot current = is t.current slot ≡ true
Has t slot (held_by p) = holds t p slot ≡ true
Has t slot free = (is t.current slot ≡ false) × ((p : ℕ) → holds t p slot ≡ false)
