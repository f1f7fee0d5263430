-- Demand 3 and its companions hold of the old store.
-- Why: from place 36 on, a reader that a synchronise still waits for added to the other indicator, since the first was seen empty after the SYNC;
-- so the second empty one shows that nobody is waited for. Assumes nothing.
use Prim.Native.Nat.{ℕ, zero, suc, ◌+◌, ◌-◌, ◌<◌, ◌≤◌}
use Rattle.std.proofs.Common.{arith, ◌∙◌, inl, inr}
use Rattle.std.specs.Prelude.{◌≡◌, ◌≢◌, ◌⊎◌, Bool, true, false, List, length, leb, ltb, eqb}
use Rattle.std.proofs.Math.Path.{refl, sym}
use borrow.Author.Tests.{eqb-true, eqb-false, eq-eqb, ne_eqb, leb-false, le-leb, lt-leb, ltb-false, le-ltb}
use Rattle.base.specs.Base.{choose, upd}
use Rattle.base.specs.Rows.{any_true}
use Rattle.base.specs.RowLaws.{clash, by_test, neither, or_none, all_false, none_true, count_none, choose_split, AllClear, AllFalse}
use Rattle.calls.specs.declared.Call.TheVariants.{Enter, Leave, Sync, Raise, Walk}
use Rattle.calls.specs.declared.Reply.TheVariants.{At, Left, Synced, Walked}
use Rattle.calls.specs.declared.WalkReply.{WalkReply}
use Rattle.calls.specs.declared.WalkReply.TheVariants.{Waiting, Spent, Quiet, Returned}
use Rattle.calls.specs.Numbers.{readers_max, number_max, kind_old, place_out, place_loaded, place_published, place_loaded_again, place_open, place_picked, place_synchronising, place_quiet, place_raised, place_returned}
use Rattle.layout.specs.declared.Reader.{Reader}
use Rattle.layout.specs.Layout.{head_word_count, indicator_count, indicators_at, readers, publishers, slots, current, version, indicator, reader_at, with_reader, with_indicator}
use Rattle.layout.specs.Records.{◌place≔◌, ◌first≔◌, ◌picked≔◌}
use Rattle.layout.specs.Laws.{length_reader, indicator_reader, indicator_put, fresh_indicator, fresh_reader_lem}
use Rattle.statement.specs.Machine.{State, state, Given}
use Rattle.statement.specs.Frame.{PlaceAndOne}
use Rattle.statement.specs.KeptInvariant.{Ghost, Back}
use Rattle.statement.specs.KeptInvariant as kept
use Rattle.publication_law.specs.Steps.{reader, publisher, enter_tests, leave_tests, sync_tests, sync, raise, walk, place_after, made}
use Rattle.publication_law.specs.DamageLaws.{Undamaged}
use Rattle.publication_law.specs.Onward.{Onward}
use Rattle.publication_law.specs.Onward.Onward.{stays_out, opens, picks}
use Rattle.publication_law.specs.Moves.{MovesReader, reader_moves, reader_moves_indicator}
use Rattle.publication_law.specs.KindLaw.{VersionsLaw, KindLaw}
use Rattle.publication_law.proofs.Frames.{place_and_one}
use Rattle.publication_law.specs.KindShows.{WholeInvariant, KindShows}
use Rattle.publication_law.specs.DetectorInvariant.{invariant_of}
use Rattle.publication_law.proofs.Detector.{start_own, early_own, enter_invariant, leave_invariant, sync_invariant, raise_invariant, walk_invariant, return_from_invariant}
use Rattle.two_phase_law.specs.Steps.{versions, damage_rules, reader_rows, parity, added_to, onward, next_place, entered, enter_words, leaving, leave_words, looked_at, looks_of, look_at, fresh_reader, fixed}
use Rattle.two_phase_law.specs.Traits.{traits}
use Rattle.two_phase_law.specs.KindInvariant.{Counted, passed_at, detector}
use Rattle.two_phase_law.specs.Counts.{counted_to, none_added, stays_counted, arrives_counted, leaves_counted, LookFacts, look_mark, walk_places, turn_low, turn_high, look_facts}

-- At 5 a reader is damaged by its pick alone.
pub picked_rows : (ss : ℕ) (x : Reader) → x.place ≡ place_picked → any_true (reader_rows ss x) ≡ leb ss x.picked
picked_rows ss x e = rw e (or_none (leb ss x.picked))

-- Modulo 2^64 one before and one after undo each other, below 2^64.
pub versions_law : VersionsLaw versions
versions_law = record {
  before_mark_lem = λ ver fits. let l = ltb-false number_max ver fits in omega arith;
  mark_after = λ mark e. let l = ltb-false number_max mark e in omega arith;
  mark_fits = λ ver fits not_last. le-ltb number_max (versions.mark_at ver) (omega arith);
  raised_fits = λ mark e. e;
}

abbrev pub law : KindLaw damage_rules
law = record {
  versions_law = versions_law;
  reader_picked = λ rs ss x e f. leb-false ss x.picked (sym (picked_rows ss x e) ∙ f);
  extra_damage = λ rs y. ltb place_returned y.place;
  extra_rows_lem = λ rs ss y. refl;
  extra_early = λ rs y l. le-ltb 38 y.place (omega arith);
  extra_beyond = λ rs y e. ltb-false 38 y.place e;
}

-- ENTER, by the place.
module _ (ver cur : ℕ) where
  onward_goes : (x : Reader) (pl : ℕ) → pl ≤ place_open → pl ≢ place_published → pl ≢ place_loaded_again → let x' = onward ver cur (x place≔ pl) in Onward cur pl x.picked x'.place x'.picked
  unfolding onward
  onward_goes x zero l n2 n3 = stays_out (omega arith) (omega arith) refl
  onward_goes x (suc zero) l n2 n3 = opens (omega arith) refl refl
  onward_goes x (suc (suc zero)) l n2 n3 = absurd (n2 refl)
  onward_goes x (suc (suc (suc zero))) l n2 n3 = absurd (n3 refl)
  onward_goes x (suc (suc (suc (suc zero)))) l n2 n3 = picks refl refl refl
  onward_goes x (suc (suc (suc (suc (suc pl))))) l n2 n3 = absurd (omega arith)

  onward_fits : (slots : ℕ) (x : Reader) (pl : ℕ) → cur < slots → AllFalse (reader_rows slots (onward ver cur (x place≔ pl)))
  unfolding onward
  onward_fits slots x zero low = (refl, (refl, (refl, (refl, tt))))
  onward_fits slots x (suc zero) low = (refl, (refl, (refl, (refl, tt))))
  onward_fits slots x (suc (suc pl)) low = rw (ne_eqb (suc (suc pl)) 0 (λ eq. omega arith), ne_eqb (suc (suc pl)) 1 (λ eq. omega arith)) (refl, (refl, (refl, (lt-leb slots cur low, tt))))

onward_place : (ver cur : ℕ) (x : Reader) → (onward ver cur x).place ≡ next_place x.place
unfolding onward
onward_place ver cur x = go (eqb x.place place_out) (eqb x.place place_loaded)
  where
    go : (at_0 at_1 : Bool) → (choose {A = Reader} at_0 (x place≔ place_loaded first≔ ver)
        (choose at_1 (x place≔ place_open)
        (x place≔ place_picked picked≔ cur))).place ≡ choose at_0 place_loaded (choose at_1 place_open place_picked)
    go true at_1 = refl
    go false true = refl
    go false false = refl

onward_first : (ver cur : ℕ) (x : Reader) → place_open ≤ x.place → (onward ver cur x).first ≡ x.first
unfolding onward
onward_first ver cur x l = rw (ne_eqb x.place 0 (λ eq. omega arith), ne_eqb x.place 1 (λ eq. omega arith)) refl

-- The place and at most one number more.
onward_stays : (ver cur : ℕ) (x : Reader) → PlaceAndOne x (onward ver cur x)
unfolding onward
onward_stays ver cur x = choose_split (PlaceAndOne x) (eqb x.place place_out) (λ _. place_and_one _ _ 1 (λ ne. absurd (ne refl)) (λ _. refl) (λ _. refl) (λ _. refl))
    (λ _. choose_split (PlaceAndOne x) (eqb x.place place_loaded) (λ _. place_and_one _ _ 0 (λ _. refl) (λ _. refl) (λ _. refl) (λ _. refl))
    (λ _. place_and_one _ _ 4 (λ _. refl) (λ _. refl) (λ _. refl) (λ ne. absurd (ne refl))))

-- The words after an ENTER and a LEAVE.
pub enter_moves : (s : State) → Undamaged damage_rules s → (r : ℕ) → r < readers s.words → MovesReader s.words (enter_words s r) r (entered s r)
enter_moves s f r l =
    choose_split (λ (w : List ℕ). MovesReader s.words w r (entered s r)) (eqb (reader s r).place place_loaded)
    (λ _. reader_moves_indicator f r (entered s r) l (indicators_at + parity (reader s r).first) _ (omega arith) (omega arith)) (λ _. reader_moves f r (entered s r) l)

pub leave_moves : (s : State) → Undamaged damage_rules s → (r : ℕ) → r < readers s.words → MovesReader s.words (leave_words s r) r (leaving (reader s r))
leave_moves s f r l = reader_moves_indicator f r (leaving (reader s r)) l (indicators_at + parity (reader s r).first) _ (omega arith) (omega arith)

-- The indicators after a reader is written, with one of them changed.
pub changed_indicator : (w : List ℕ) → head_word_count ≤ length w → (r : ℕ) (x : Reader) (j : ℕ) → j < indicator_count → (f : ℕ → ℕ) (j' : ℕ)
    → indicator (with_indicator (with_reader w r x) j (f (indicator w j))) j' ≡ choose (eqb j j') (f (indicator w j')) (indicator w j')
changed_indicator w len r x j low f j' = indicator_put (with_reader w r x) j (f (indicator w j)) low (rw (length_reader w r x) len) j' ∙ rw (indicator_reader w r x) (go (eqb j j') refl)
  where
    go : (test : Bool) → eqb j j' ≡ test → choose test (f (indicator w j)) (indicator w j') ≡ choose test (f (indicator w j')) (indicator w j')
    go true e = rw (eqb-true j j' e) refl
    go false e = refl

-- Each of the kind's own steps keeps the invariant.
module _ (z : Given) (g : Ghost) (s : State) (i : WholeInvariant damage_rules (invariant_of detector) z g s) where
  head_long : head_word_count ≤ length s.words
  head_long = omega (arith, i.shared.every.no_damage.head.long)

  -- ENTER from 0, from 1 and from 4: what is counted of reader r.
  out_added : (x : Reader) (j : ℕ) → x.place ≤ place_loaded_again → added_to j x ≡ false
  out_added x j l = rw (lt-leb 4 x.place (omega arith)) refl

  in_added : (x : Reader) (j : ℕ) → place_open ≤ x.place → added_to j x ≡ eqb (parity x.first) j
  in_added x j l = rw (le-leb 4 x.place l) refl

  same_counted : (r : ℕ) (x : Reader) → r < readers s.words → ((j : ℕ) → added_to j x ≡ added_to j (reader s r)) → Counted (readers s.words) (indicator (with_reader s.words r x)) (upd (reader_at s.words) r x)
  same_counted r x rn e = rw (indicator_reader s.words r x) (stays_counted (readers s.words) (indicator s.words) (reader_at s.words) i.own.readers_are r rn x e)

  arrived : (r pl : ℕ) → r < readers s.words → (reader s r).place ≡ pl → pl ≤ place_open → pl ≢ place_published → pl ≢ place_loaded_again → Counted (readers s.words) (indicator (enter_words s r)) (upd (reader_at s.words) r (entered s r))
  unfolding onward
  arrived r zero rn e l n2 n3 =
      let x : Reader = reader s r place≔ place_loaded first≔ version s.words in
      rw (eq-eqb (reader s r).place 0 e, ne_eqb (reader s r).place 1 (λ eq. omega arith)) (same_counted r x rn (λ j. sym (out_added (reader s r) j (omega arith))))
  arrived r (suc zero) rn e l n2 n3 = rw (ne_eqb (reader s r).place 0 (λ eq. omega arith), eq-eqb (reader s r).place 1 e)
      (arrives_counted _ (indicator s.words) (reader_at s.words) i.own.readers_are r rn _ _ (omega arith) (omega arith)
      (λ j _. changed_indicator s.words head_long r _ (parity (reader s r).first) (omega arith) (λ n. n + 1) j))
  arrived r (suc (suc zero)) rn e l n2 n3 = absurd (n2 refl)
  arrived r (suc (suc (suc zero))) rn e l n2 n3 = absurd (n3 refl)
  arrived r (suc (suc (suc (suc zero)))) rn e l n2 n3 =
      let x : Reader = reader s r place≔ place_picked picked≔ current s.words in
      rw (ne_eqb (reader s r).place 0 (λ eq. omega arith), ne_eqb (reader s r).place 1 (λ eq. omega arith)) (same_counted r x rn (λ j. sym (in_added (reader s r) j (omega arith))))
  arrived r (suc (suc (suc (suc (suc pl))))) rn e l n2 n3 = absurd (omega arith)

  enter_kept : (r : ℕ) → AllClear (enter_tests s r) → WholeInvariant damage_rules (invariant_of detector) z (kept.ghost_step g (Enter r) (At (entered s r).place)) (state (enter_words s r) s.entries)
  enter_kept r f =
      let lt : r < readers s.words = leb-false _ _ f.0 in
      let l : (reader s r).place ≤ place_open = let less = leb-false 5 (reader s r).place f.1.0 in omega arith in
      let rf = all_false (reader_rows (slots s.words) (reader s r)) (i.shared.every.no_damage.readers_undamaged r lt) in
      let n2 = eqb-false (reader s r).place 2 rf.1.0 in
      let n3 = eqb-false (reader s r).place 3 rf.1.1.0 in
      enter_invariant detector damage_rules law z g s i _ r (entered s r) (enter_moves s i.shared.every.no_damage r lt)
      (none_true (reader_rows (slots s.words) (entered s r)) (onward_fits _ _ _ (reader s r) _ i.shared.every.no_damage.head.current_below))
      (arrived r _ lt refl l n2 n3) lt (onward_goes _ _ (reader s r) _ l n2 n3) (λ four y waited. rw (onward_first (version s.words) (current s.words) (reader s r) four) waited)

  leave_kept : (r : ℕ) → AllClear (leave_tests s r) → WholeInvariant damage_rules (invariant_of detector) z (kept.ghost_step g (Leave r) Left) (state (leave_words s r) s.entries)
  leave_kept r f =
      let lt : r < readers s.words = leb-false _ _ f.0 in
      leave_invariant detector damage_rules law z g s i _ r (leaving (reader s r)) (leave_moves s i.shared.every.no_damage r lt) refl
      (leaves_counted _ (indicator s.words) (reader_at s.words) i.own.readers_are r lt _ _ (ltb-false _ _ f.1.0) (omega arith)
      (λ j _. changed_indicator s.words head_long r _ (parity (reader s r).first) (omega arith) (λ n. n - 1) j)) refl

  sync_kept : (p : ℕ) → AllClear (sync_tests versions s p) → WholeInvariant damage_rules (invariant_of detector) z (kept.ghost_step g (Sync p) (Synced (versions.mark_at (version s.words)))) (sync versions s p).after
  sync_kept p f = sync_invariant detector damage_rules law z g s i p f refl refl (λ r _ l. absurd (omega arith))

  raise_kept : (p : ℕ) → p < publishers s.words → eqb (publisher s p).place place_quiet ≡ true → WholeInvariant damage_rules (invariant_of detector) z (kept.ghost_step g (Raise p) (raise versions s p).reply) (raise versions s p).after
  raise_kept p lt turn =
      let at36 = eqb-true (publisher s p).place 36 turn in
      raise_invariant detector damage_rules law z g s i p lt (omega arith) (omega arith) refl (rw at36 refl) (λ r waited _. waited (omega arith)) (λ _. i.own.readers_are)

  -- A look of publisher p.
  module _ (p b : ℕ) (lt : p < publishers s.words) (turn : ((publisher s p).place ≡ place_synchronising) ⊎ ((publisher s p).place ≡ place_raised)) where
    came : LookFacts (indicator s.words (looked_at (publisher s p))) (publisher s p) b (looks_of s (publisher s p) b)
    came = look_facts (indicator s.words (looked_at (publisher s p))) (publisher s p) b turn

    low : place_synchronising ≤ (publisher s p).place
    low = turn_low (publisher s p).place turn

    high : (publisher s p).place ≤ place_raised
    high = turn_high (publisher s p).place turn

    -- A reader that is waited for did not add to an indicator that is zero.
    not_added : (j : ℕ) → j < 2 → indicator s.words j ≡ 0 → (r : ℕ) → g.pend p r ≡ true → parity (reader s r).first ≢ j
    not_added j j2 e r e' = let awaits = i.shared.grace.awaited p r e' in
        none_added _ (indicator s.words) (reader_at s.words) i.own.readers_are j j2 e r ((i.shared.every.core.readers r).bound (omega (arith, awaits.opened))) awaits.opened

    after_waited : (r : ℕ) → g.pend p r ≡ true → place_quiet ≤ place_after (publisher s p).place (looks_of s (publisher s p) b).reply → parity (reader s r).first ≢ parity (publisher s p).walk.mark
    after_waited r e' l = go turn
      where
        go : ((publisher s p).place ≡ place_synchronising) ⊎ ((publisher s p).place ≡ place_raised) → parity (reader s r).first ≢ parity (publisher s p).walk.mark
        go (inl at35) = not_added (parity (publisher s p).walk.mark) (omega arith)
            (rw (eq-eqb (publisher s p).place 35 at35) at (came.quiet_zero at35 (λ e. omega arith))) r e'
        go (inr at37) = i.own.waited_for p r e' (omega arith)

    none_pending : place_after (publisher s p).place (looks_of s (publisher s p) b).reply ≡ place_returned → (r : ℕ) → g.pend p r ≡ false
    none_pending done r = by_test (g.pend p r) (λ e'. go turn e')
      where
        go : ((publisher s p).place ≡ place_synchronising) ⊎ ((publisher s p).place ≡ place_raised) → g.pend p r ≡ true → ⊥
        go (inl at35) e' = not_35 (looks_of s (publisher s p) b).reply refl at35 done
          where
            not_35 : (a : WalkReply) → (looks_of s (publisher s p) b).reply ≡ a → (publisher s p).place ≡ place_synchronising → place_after (publisher s p).place a ≡ place_returned → ⊥
            not_35 (Waiting who) e at35 d = omega arith
            not_35 Spent e at35 d = omega arith
            not_35 Quiet e at35 d = omega arith
            not_35 (Returned looks waits) e at35 d = (came.returns looks waits e).0 at35
        go (inr at37) e' =
            let waited = i.own.waited_for p r e' (omega arith) in
            let other = not_added (1 - parity (publisher s p).walk.mark) (omega arith) (rw (ne_eqb (publisher s p).place 35 (λ e. omega arith)) at (came.returned_zero at37 (λ e. omega arith))) r e' in
            omega arith

    still_counted : (looks_of s (publisher s p) b).walk.looks ≡ passed_at (place_after (publisher s p).place (looks_of s (publisher s p) b).reply) + (looks_of s (publisher s p) b).walk.waits
    still_counted = omega (arith, came.counted, i.own.counted p low)

    walk_kept : WholeInvariant damage_rules (invariant_of detector) z (kept.ghost_step g (Walk p b) (Walked (looks_of s (publisher s p) b).reply)) (walk s p (looks_of s (publisher s p) b)).after
    walk_kept = walk_invariant detector damage_rules law z g s i p b lt low high (looks_of s (publisher s p) b) came.waits_are still_counted
        none_pending came.mark_same (le-ltb 38 _ came.high) (λ r e' l. rw came.mark_same (after_waited r e' l))

    -- A return is said at 37.
    returned_at37 : ((publisher s p).place ≡ place_synchronising) ⊎ ((publisher s p).place ≡ place_raised) → (publisher s p).place ≢ place_synchronising → (publisher s p).place ≡ place_raised
    returned_at37 (inl at35) ne = absurd (ne at35)
    returned_at37 (inr at37) ne = at37

    return_shown : (looks waits : ℕ) → (looks_of s (publisher s p) b).reply ≡ Returned looks waits → Back traits z g p looks waits
    return_shown looks waits e =
        let numbers = came.returns looks waits e in
        return_from_invariant detector damage_rules law z g s i p b lt low high (looks_of s (publisher s p) b) came.waits_are still_counted traits looks waits (returned_at37 turn numbers.0) e
        (none_pending (rw e refl)) numbers.1 numbers.2 (rw e refl)

-- At the start no reader has added to an indicator.
start_counted : (z : Given) (s : State) → let w = (made kind_old fresh_reader z s).words in Counted (readers w) (indicator w) (reader_at w)
start_counted z s j _ = fresh_indicator kind_old z.readers z.publishers z.slots z.version fresh_reader j ∙ sym (count_none (λ r. added_to j (reader_at w r)) (readers w) (λ r l. none r))
  where
    w : List ℕ
    w = (made kind_old fresh_reader z s).words

    none : (r : ℕ) → added_to j (reader_at w r) ≡ false
    none r = rw (fresh_reader_lem kind_old z.readers z.publishers z.slots z.version fresh_reader r) (choose_split (λ (x : Reader). added_to j x ≡ false) (ltb r readers_max) (λ _. refl) (λ _. refl))

no_looks : (s : State) (p : ℕ) → looks_of s (publisher s p) 0 ≡ record { walk = (publisher s p).walk; reply = Spent }
unfolding look_at
no_looks s p = refl

-- All that only the old store can show: a walk passes two looks, ENTER goes 1, 4, 5.
pub kind_shows : KindShows fixed traits
kind_shows = record {
  kind_law = law;
  first_is = refl;
  lacks_is = λ c. refl;
  apart_is = refl;
  none_retired = refl;
  exclusive_is = refl;
  successor_is = refl;
  raises_in_lem = λ phase. refl;
  walks_in_lem = λ phase. refl;
  greatest_fits = λ ver l. le-ltb number_max ver l;
  fits_to_greatest = λ ver e. ltb-false number_max ver e;
  last_is = λ ver fits. fits;
  raises_late = λ pl l. ne_eqb pl 36 (λ e. omega arith);
  walks_late = λ pl l. neither (eqb pl 35) (eqb pl 37) (ne_eqb pl 35 (λ e. omega arith)) (ne_eqb pl 37 (λ e. omega arith));
  mark_stays = λ s p b. look_mark (indicator s.words (looked_at (publisher s p))) (publisher s p) b;
  no_looks = no_looks;
  KindInvariant = invariant_of detector;
  start_own = λ z s f. start_own detector kind_old fresh_reader z s (start_counted z s);
  fresh_is = λ z. refl;
  fresh_reader_fits = λ rs ss. refl;
  no_further = λ z g s i. counted_to s i.own.readers_are;
  early_own = early_own detector;
  enter_moves = enter_moves;
  left = λ s r. leaving (reader s r);
  leave_moves = leave_moves;
  enter_place = λ s f r l low. onward_place (version s.words) (current s.words) (reader s r);
  enter_head = λ e. clash (sym e);
  leave_head = λ e. clash (sym e);
  enter_stays = λ s r low. onward_stays (version s.words) (current s.words) (reader s r);
  leave_stays = λ s r. record { first = refl; second = refl; published = λ _. refl; picked = refl };
  enter_kept = enter_kept;
  leave_kept = leave_kept;
  sync_kept = sync_kept;
  raise_kept = raise_kept;
  walk_kept = λ z g s i p b lt turn. walk_kept z g s i p b lt (walk_places (publisher s p).place turn);
  return_shown = λ z g s i p b looks waits lt turn. return_shown z g s i p b lt (walk_places (publisher s p).place turn) looks waits;
}
