-- What the calls alone tell of quiescent states and deferred slots (request 3), with epochs as counts of raises: the epoch is the number of DEFERs that replied 35 so far,
-- and what a participant loads, observes, reads and marks are such numbers.
use Rattle.std.specs.Prelude.{ℕ, suc, ◌+◌, ◌-◌, min, Bool, true, false, ◌&&◌, ◌||◌, leb, eqb}
use Rattle.std.proofs.Math.Option.{Option, none, some}
use Rattle.base.specs.Base.{choose, upd, is}
use Rattle.base.specs.Rows.{count_below}

pub record Deferral : Type 0 where
  -- how many participants there are, as made
  pub participants : ℕ
  -- how many DEFERs replied 35: each raised the epoch by one
  pub raises : ℕ
  -- the slots that a participant has picked and not dropped since: a further PICK drops none of them
  pub picks : ℕ → ℕ → Bool
  -- a participant's step in its checkpoint, 0 outside of one
  pub step : ℕ → ℕ
  -- the raises at its last load, those that it has observed, and the least that its checkpoint has read
  pub loaded : ℕ → ℕ
  pub observed : ℕ → ℕ
  pub least : ℕ → ℕ
  -- the raise of its last DEFER that replied 35, and that of each slot which it deferred and has not freed
  pub mark : ℕ → ℕ
  pub marks : ℕ → ℕ → Option ℕ

abbrev pub deferral₀ : ℕ → Deferral
deferral₀ n = record { participants = n; raises = 0; picks = λ r slot. false; step = λ r. 0; loaded = λ r. 0; observed = λ r. 0; least = λ r. 0; mark = λ p. 0; marks = λ p slot. none }

-- Whether a slot has a mark, and how many of so many slots p has deferred and not freed.
abbrev pub is_marked : Option ℕ → Bool
is_marked none = false
is_marked (some mark) = true

abbrev pub deferred_by : Deferral → ℕ → ℕ → ℕ
deferred_by d p slots = count_below (λ slot. is_marked (d.marks p slot)) slots

-- PICK of this slot.
abbrev pub after_pick_of : Deferral → ℕ → Option ℕ → Deferral
after_pick_of d r picked = record {
  participants = d.participants;
  raises = d.raises;
  picks = upd d.picks r (λ slot. is picked slot || d.picks r slot);
  step = d.step;
  loaded = d.loaded;
  observed = d.observed;
  least = d.least;
  mark = d.mark;
  marks = d.marks;
}

-- The picks of r are dropped, where that is so.
abbrev pub dropped_by : Bool → Deferral → ℕ → ℕ → ℕ → Bool
dropped_by drops d r = choose drops (upd d.picks r (λ slot. false)) d.picks

-- The last step of a checkpoint: it reads the last participant.
abbrev pub is_last_step : Deferral → ℕ → Bool
is_last_step d k = eqb k (d.participants + 2)

-- The least read after step k: step 3 reads participant 0 and starts it, step k after it reads participant k - 3.
abbrev pub least_after : Deferral → ℕ → ℕ → ℕ
least_after d r k = choose (eqb k 3) (d.observed 0) (choose (leb 4 k) (min (d.least r) (d.observed (k - 3))) (d.least r))

-- Whether a slot's mark is at most the least; a slot that is not deferred has no mark.
abbrev pub reached : ℕ → Option ℕ → Bool
reached least none = false
reached least (some mark) = leb mark least

-- The slots of its own that step k of r's checkpoint frees: at the last step each one whose mark is at most the least read.
abbrev pub freed_by : Deferral → ℕ → ℕ → ℕ → Bool
freed_by d r k slot = is_last_step d k && reached (least_after d r k) (d.marks r slot)

-- CHECKPOINT that replied k: step 1 drops the picks and loads, step 2 observes what was loaded, each later one reads; after the last the participant is outside again.
abbrev pub after_step : Deferral → ℕ → ℕ → Deferral
after_step d r k = record {
  participants = d.participants;
  raises = d.raises;
  picks = dropped_by (eqb k 1) d r;
  step = upd d.step r (choose (is_last_step d k) 0 k);
  loaded = upd d.loaded r (choose (eqb k 1) d.raises (d.loaded r));
  observed = upd d.observed r (choose (eqb k 2) (d.loaded r) (d.observed r));
  least = upd d.least r (least_after d r k);
  mark = d.mark;
  marks = upd d.marks r (λ slot. choose (freed_by d r k slot) none (d.marks r slot));
}

-- DEFER that replied 35: it drops the picks; one more raise, and its number is the mark.
abbrev pub after_raise : Deferral → ℕ → Deferral
after_raise d p = record {
  participants = d.participants;
  raises = suc d.raises;
  picks = dropped_by true d p;
  step = d.step;
  loaded = d.loaded;
  observed = d.observed;
  least = d.least;
  mark = upd d.mark p (suc d.raises);
  marks = d.marks;
}

-- DEFER that replied 0: it observes its mark, and its former slot that has no mark yet gets it.
abbrev pub marked_by : ℕ → Option ℕ → Option ℕ
marked_by mark none = some mark
marked_by mark (some earlier) = some earlier

abbrev pub after_queue : Deferral → ℕ → (ℕ → Bool) → Deferral
after_queue d p former = record {
  participants = d.participants;
  raises = d.raises;
  picks = d.picks;
  step = d.step;
  loaded = d.loaded;
  observed = upd d.observed p (d.mark p);
  least = d.least;
  mark = d.mark;
  marks = upd d.marks p (λ slot. choose (former slot) (marked_by (d.mark p) (d.marks p slot)) (d.marks p slot));
}
