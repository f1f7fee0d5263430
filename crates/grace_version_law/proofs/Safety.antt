-- Demand 3 and its companions hold of the new store.
-- Why: a reader whose section was open at a SYNC published a version below that mark, and keeps it until it leaves; so the walk does not pass it before. Assumes nothing.
use Prim.Native.Nat.{ℕ, zero, suc, ◌+◌, ◌<◌, ◌≤◌}
use Rattle.std.proofs.Common.{arith, sym, ◌∙◌, subst, eqb-true, ne_eqb, leb-false, ltb-true, ltb-false, le-ltb}
use Rattle.std.specs.Prelude.{◌≡◌, ◌≢◌, Bool, true, false, ◌||◌, List, leb, ltb, eqb}
use Rattle.std.proofs.Math.Path.{refl}
use Rattle.std.proofs.lemmas.Bool.{lt-leb}
use Rattle.base.specs.Base.{upd}
use Rattle.base.specs.Rows.{any_true}
use Rattle.base.specs.RowLaws.{clash, by_test, or_none, and_false, and_not, or_false, all_false, none_true, choose_split, same, at_or, AllClear, AllFalse}
use Rattle.calls.specs.declared.Call.{Call}
use Rattle.calls.specs.declared.Call.TheVariants.{Enter, Leave, Sync, Raise, Walk}
use Rattle.calls.specs.declared.Reply.TheVariants.{At, Left, Synced, Walked}
use Rattle.calls.specs.declared.WalkReply.{WalkReply}
use Rattle.calls.specs.declared.WalkReply.TheVariants.{Waiting, Spent, Quiet, Returned}
use Rattle.calls.specs.Numbers.{readers_max, kind_new, place_open, place_picked, place_synchronising, place_quiet, place_raised, place_returned}
use Rattle.layout.specs.declared.Reader.{Reader}
use Rattle.layout.specs.declared.Publisher.{Publisher}
use Rattle.layout.specs.declared.WalkRecord.{WalkRecord}
use Rattle.layout.specs.Layout.{readers_at, readers, publishers, slots, current, version, reader_at, with_reader}
use Rattle.layout.specs.Records.{◌place≔◌, ◌at_place◌, ◌walk≔◌}
use Rattle.layout.specs.Laws.{head_reader, fresh_head, fresh_reader_lem}
use Rattle.statement.specs.Machine.{State, state, Given, Fresh, events, after_all}
use Rattle.statement.specs.Frame.{PlaceAndOne}
use Rattle.statement.specs.KeptInvariant.{Ghost, Back}
use Rattle.statement.specs.KeptInvariant as kept
use Rattle.publication_law.specs.Steps.{reader, publisher, enter_tests, leave_tests, sync_tests, sync, raise, walk, new_walk, place_after, made}
use Rattle.publication_law.specs.Damage.{publisher_rows}
use Rattle.publication_law.specs.Onward.{Onward}
use Rattle.publication_law.specs.Onward.Onward.{stays_out, opens, picks}
use Rattle.publication_law.specs.Moves.{reader_moves}
use Rattle.publication_law.specs.KindLaw.{KindLaw, up_to_law}
use Rattle.publication_law.proofs.Frames.{place_and_one}
use Rattle.publication_law.specs.KindShows.{WholeInvariant, KindShows}
use Rattle.publication_law.proofs.KindShows.{reached}
use Rattle.publication_law.specs.DetectorInvariant.{invariant_of}
use Rattle.publication_law.proofs.Detector.{start_own, early_own, enter_invariant, leave_invariant, sync_invariant, raise_invariant, walk_invariant, return_from_invariant}
use Rattle.grace_version_law.specs.Steps.{last_version, versions, damage_rules, reader_rows, extra_rows, onward, entered, leaving, looked_at, looks_of, looks_from, fresh_reader, fixed, GraceVersion}
use Rattle.grace_version_law.specs.Traits.{traits}
use Rattle.grace_version_law.specs.KindInvariant.{Shown, Behind, detector}
use Rattle.grace_version_law.specs.Walks.{Ends, LooksFacts}
use Rattle.grace_version_law.proofs.Walks.{looked_at_all, looks_mark, looks_facts}

-- What the kind adds to a publisher's rows, from facts and to them.
pub extra_clear : (rs : ℕ) (y : Publisher) → y.place ≤ place_returned → y.place ≢ place_quiet → (place_synchronising ≤ y.place → y.place ≤ place_raised → y.walk.next < rs) → any_true (extra_rows rs y) ≡ false
extra_clear rs y high ne below = none_true (extra_rows rs y) (
  le-ltb 38 y.place high,
  (
    ne_eqb y.place 36 ne,
    (and_not (eqb y.place place_synchronising || eqb y.place place_raised) (leb rs y.walk.next) (λ e. lt-leb rs y.walk.next (by_place (eqb y.place place_synchronising) refl (eqb y.place place_raised) refl e)), tt),
  ),
)
  where
    by_place : (is35 : Bool) → eqb y.place place_synchronising ≡ is35 → (is37 : Bool) → eqb y.place place_raised ≡ is37 → (is35 || is37) ≡ true → y.walk.next < rs
    by_place true d is37 e either = below (omega (arith, eqb-true y.place 35 d)) (omega (arith, eqb-true y.place 35 d))
    by_place false d true e either = below (omega (arith, eqb-true y.place 37 e)) (omega (arith, eqb-true y.place 37 e))
    by_place false d false e either = clash (sym either)

pub next_below : (rs ss : ℕ) (y : Publisher) → damage_rules.publisher_damaged rs ss y ≡ false → (eqb y.place place_synchronising || eqb y.place place_raised) ≡ true → y.walk.next < rs
next_below rs ss y e turn =
    let f = all_false (extra_rows rs y) (or_false (any_true (extra_rows rs y)) (any_true (publisher_rows versions ss y)) e).0 in
    leb-false rs y.walk.next (and_false (eqb y.place place_synchronising || eqb y.place place_raised) (leb rs y.walk.next) f.1.1.0 turn)

-- At 5 a reader is damaged by its pick alone.
pub picked_rows : (ss : ℕ) (x : Reader) → x.place ≡ place_picked → any_true (reader_rows ss x) ≡ leb ss x.picked
picked_rows ss x e = rw e (or_none (leb ss x.picked))

abbrev pub law : KindLaw damage_rules
law = record {
  versions_law = up_to_law last_version;
  reader_picked = λ rs ss x e f. leb-false ss x.picked (sym (picked_rows ss x e) ∙ f);
  extra_damage = λ rs y. any_true (extra_rows rs y);
  extra_rows_lem = λ rs ss y. refl;
  extra_early = λ rs y l. extra_clear rs y (omega arith) (λ e. omega arith) (λ low high. absurd (omega arith));
  extra_beyond = λ rs y e. ltb-false 38 y.place (all_false (extra_rows rs y) e).0;
}

-- ENTER, by the place.
module _ (ver cur : ℕ) where
  onward_shown : (n r : ℕ) (x : Reader) (pl : ℕ) → pl ≤ place_open → Shown ver n r (x place≔ pl)
      → Shown ver n r (onward ver cur (x place≔ pl))
  unfolding onward
  onward_shown n r x zero l was = record { first_low = omega arith; second_low = was.second_low; shown = λ l'. absurd (omega arith); out = λ rn l'. was.out rn (omega arith) }
  onward_shown n r x (suc zero) l was = record { first_low = was.first_low; second_low = was.second_low; shown = λ l'. was.first_low; out = λ rn l'. absurd (omega arith) }
  onward_shown n r x (suc (suc zero)) l was = record { first_low = was.first_low; second_low = omega arith; shown = λ l'. was.shown (omega arith); out = λ rn l'. absurd (omega arith) }
  onward_shown n r x (suc (suc (suc zero))) l was = record {
    first_low = was.first_low;
    second_low = was.second_low;
    shown = λ l'. choose_split (λ (m : ℕ). m ≤ ver) (eqb x.first x.second) (λ _. was.shown (omega arith)) (λ _. was.second_low);
    out = λ rn l'. absurd (omega arith);
  }
  onward_shown n r x (suc (suc (suc (suc zero)))) l was = record { first_low = was.first_low; second_low = was.second_low; shown = λ l'. was.shown (omega arith); out = λ rn l'. absurd (omega arith) }
  onward_shown n r x (suc (suc (suc (suc (suc pl))))) l was = absurd (omega arith)

  -- .. the place and one number more.
  onward_stays : (x : Reader) (pl : ℕ) → pl ≤ place_open → PlaceAndOne (x place≔ pl) (onward ver cur (x place≔ pl))
  unfolding onward
  onward_stays x zero l = place_and_one _ _ 1 (λ ne. absurd (ne refl)) (λ _. refl) (λ _. refl) (λ _. refl)
  onward_stays x (suc zero) l = place_and_one _ _ 3 (λ _. refl) (λ _. refl) (λ ne. absurd (ne refl)) (λ _. refl)
  onward_stays x (suc (suc zero)) l = place_and_one _ _ 2 (λ _. refl) (λ ne. absurd (ne refl)) (λ _. refl) (λ _. refl)
  onward_stays x (suc (suc (suc zero))) l = place_and_one _ _ 3 (λ _. refl) (λ _. refl) (λ ne. absurd (ne refl)) (λ _. refl)
  onward_stays x (suc (suc (suc (suc zero)))) l = place_and_one _ _ 4 (λ _. refl) (λ _. refl) (λ _. refl) (λ ne. absurd (ne refl))
  onward_stays x (suc (suc (suc (suc (suc pl))))) l = absurd (omega arith)

  pub onward_place : (x : Reader) (pl : ℕ) → pl ≤ place_open → (onward ver cur (x place≔ pl)).place ≡ suc pl
  unfolding onward
  onward_place x zero l = refl
  onward_place x (suc zero) l = refl
  onward_place x (suc (suc zero)) l = refl
  onward_place x (suc (suc (suc zero))) l = refl
  onward_place x (suc (suc (suc (suc zero)))) l = refl
  onward_place x (suc (suc (suc (suc (suc pl))))) l = absurd (omega arith)

  onward_goes : (x : Reader) (pl : ℕ) → pl ≤ place_open → let x' = onward ver cur (x place≔ pl) in Onward cur pl x.picked x'.place x'.picked
  unfolding onward
  onward_goes x zero l = stays_out (omega arith) (omega arith) refl
  onward_goes x (suc zero) l = stays_out (omega arith) (omega arith) refl
  onward_goes x (suc (suc zero)) l = stays_out (omega arith) (omega arith) refl
  onward_goes x (suc (suc (suc zero))) l = opens (omega arith) refl refl
  onward_goes x (suc (suc (suc (suc zero)))) l = picks refl refl refl
  onward_goes x (suc (suc (suc (suc (suc pl))))) l = absurd (omega arith)

  onward_fits : (slots : ℕ) (x : Reader) (pl : ℕ) → pl ≤ place_open → cur < slots → AllFalse (reader_rows slots (x place≔ pl))
      → AllFalse (reader_rows slots (onward ver cur (x place≔ pl)))
  unfolding onward
  onward_fits slots x zero l low rows-were = (refl, (refl, (refl, tt)))
  onward_fits slots x (suc zero) l low rows-were = (refl, (refl, (rw (same x.first) refl, tt)))
  onward_fits slots x (suc (suc zero)) l low rows-were = (refl, (refl, (rows-were.1.1.0, tt)))
  onward_fits slots x (suc (suc (suc zero))) l low rows-were = (refl, (refl, (refl, tt)))
  onward_fits slots x (suc (suc (suc (suc zero)))) l low rows-were = (refl, (lt-leb slots cur low, (refl, tt)))
  onward_fits slots x (suc (suc (suc (suc (suc pl))))) l low rows-were = absurd (omega arith)

onward_published : (ver cur : ℕ) (x : Reader) → place_open ≤ x.place → (onward ver cur x).published ≡ x.published
unfolding onward
onward_published ver cur x l = rw (ne_eqb x.place 0 (λ eq. omega arith), ne_eqb x.place 1 (λ eq. omega arith), ne_eqb x.place 2 (λ eq. omega arith), ne_eqb x.place 3 (λ eq. omega arith)) refl

-- Each of the kind's own steps keeps the invariant.
module _ (z : Given) (g : Ghost) (s : State) (i : WholeInvariant damage_rules (invariant_of detector) z g s) where
  -- What is shown of reader r as it is then and of the others.
  shown_after : (r : ℕ) (x : Reader) → Shown (version s.words) (readers s.words) r x → (r' : ℕ) → Shown (version s.words) (readers s.words) r' (upd (reader_at s.words) r x r')
  shown_after r x was = at_or r (rw (same r) was) (λ r' d. rw d (i.own.readers_are r'))

  enter_kept : (r : ℕ) → AllClear (enter_tests s r) → WholeInvariant damage_rules (invariant_of detector) z (kept.ghost_step g (Enter r) (At (entered s r).place)) (state (with_reader s.words r (entered s r)) s.entries)
  enter_kept r f =
      let lt : r < readers s.words = leb-false _ _ f.0 in
      let l : (reader s r).place ≤ place_open = let less = leb-false 5 (reader s r).place f.1.0 in omega arith in
      enter_invariant detector damage_rules law z g s i _ r (entered s r) (reader_moves i.shared.every.no_damage r (entered s r) lt)
      (none_true (reader_rows (slots s.words) (entered s r)) (onward_fits _ _ _ (reader s r) _ l i.shared.every.no_damage.head.current_below (all_false (reader_rows (slots s.words) (reader s r)) (i.shared.every.no_damage.readers_undamaged r lt))))
      (shown_after r _ (onward_shown _ _ _ _ (reader s r) _ l (i.own.readers_are r))) lt (onward_goes _ _ (reader s r) _ l)
      (λ four y behind. record { below = rw (onward_published (version s.words) (current s.words) (reader s r) four) behind.below; unpassed = behind.unpassed })

  leave_kept : (r : ℕ) → AllClear (leave_tests s r) → WholeInvariant damage_rules (invariant_of detector) z (kept.ghost_step g (Leave r) Left) (state (with_reader s.words r (leaving (reader s r))) s.entries)
  leave_kept r f = leave_invariant detector damage_rules law z g s i _ r (leaving (reader s r)) (reader_moves i.shared.every.no_damage r (leaving (reader s r)) (leb-false _ _ f.0)) refl
      (shown_after r _ (let was = i.own.readers_are r in record { first_low = was.first_low; second_low = was.second_low; shown = λ l'. absurd (omega arith); out = λ rn l'. refl })) refl

  sync_kept : (p : ℕ) → AllClear (sync_tests versions s p) → WholeInvariant damage_rules (invariant_of detector) z (kept.ghost_step g (Sync p) (Synced (version s.words + 1))) (sync versions s p).after
  sync_kept p f = sync_invariant detector damage_rules law z g s i p f
      (extra_clear (readers s.words) (publisher s p at_place place_synchronising walk≔ new_walk (publisher s p).walk (version s.words + 1)) (omega arith) (λ e. omega arith) (λ l l'. omega (arith, i.shared.every.no_damage.head.readers_low)))
      refl (λ r l. record { below = omega (arith, (i.own.readers_are r).shown (omega arith)); unpassed = λ j l'. absurd (omega arith) })

  raise_kept : (p : ℕ) → p < publishers s.words → eqb (publisher s p).place place_synchronising ≡ true → WholeInvariant damage_rules (invariant_of detector) z (kept.ghost_step g (Raise p) (raise versions s p).reply) (raise versions s p).after
  raise_kept p lt turn =
      let at35 = eqb-true (publisher s p).place 35 turn in
      raise_invariant detector damage_rules law z g s i p lt (omega arith) (omega arith)
      (extra_clear (readers s.words) (publisher s p at_place place_raised) (omega arith) (λ e. omega arith) (λ l l'. next_below _ _ (publisher s p) (i.shared.every.no_damage.publishers_undamaged p lt) (rw at35 refl)))
      refl (λ r behind. behind)
      (λ e r. let was = i.own.readers_are r in record { first_low = omega (arith, was.first_low); second_low = omega (arith, was.second_low); shown = λ l'. omega (arith, was.shown l'); out = was.out })

  -- A walk from the numbers of publisher p.
  module _ (p b : ℕ) (lt : p < publishers s.words) (at37 : (publisher s p).place ≡ place_raised) where
    pub came : LooksFacts s.words (readers s.words) (publisher s p).walk.mark b (publisher s p).walk.next (publisher s p).walk.looks (publisher s p).walk.waits (looks_of s (publisher s p).walk b)
    came = looks_facts s.words (readers s.words) (publisher s p).walk.mark (publisher s p).walk.waits b (publisher s p).walk.next (publisher s p).walk.looks
        (next_below _ _ (publisher s p) (i.shared.every.no_damage.publishers_undamaged p lt) (rw at37 refl))

    -- A reader waited for has not been passed.
    still_behind : (r : ℕ) → g.pend p r ≡ true → Behind (readers s.words) (reader s r) (looks_of s (publisher s p).walk b).walk r
    still_behind r e = let was = i.own.waited_for p r e in record {
      below = rw came.mark_same was.below;
      unpassed = λ j l e'. old was j l e' (ltb j (publisher s p).walk.next) refl;
    }
      where
        old : Behind (readers s.words) (reader s r) (publisher s p).walk r → (j : ℕ) → j < (looks_of s (publisher s p).walk b).walk.next → looked_at (readers s.words) j ≡ r → (d : Bool) → ltb j (publisher s p).walk.next ≡ d → ⊥
        old was j l e' true d = was.unpassed j (ltb-true _ _ d) e'
        old was j l e' false d = omega (arith, was.below, subst (λ (r' : ℕ). (publisher s p).walk.mark ≤ (reader_at s.words r').published) e' (came.passed j (ltb-false _ _ d) l))

    pub none_pending : (looks_of s (publisher s p).walk b).walk.next ≡ readers s.words → (r : ℕ) → g.pend p r ≡ false
    none_pending all r = by_test (g.pend p r) (λ e.
        let rn : r < readers s.words = (i.shared.every.core.readers r).bound (omega (arith, (i.shared.grace.awaited p r e).opened)) in
        let looked = looked_at_all (readers s.words) r rn in
        (still_behind r e).unpassed looked.0 (omega (arith, looked.1)) looked.2)

    abbrev EndsHere : ℕ → ℕ → ℕ → WalkReply → Type 0
    EndsHere nx lk wt a = Ends s.words (readers s.words) (publisher s p).walk.mark (publisher s p).walk.next b nx lk wt a

    returned_all : (a : WalkReply) (nx lk wt : ℕ) → EndsHere nx lk wt a → place_after 37 a ≡ place_returned → nx ≡ readers s.words
    returned_all (Waiting r) nx lk wt e e' = absurd (omega arith)
    returned_all Spent nx lk wt e e' = absurd (omega arith)
    returned_all Quiet nx lk wt e e' = absurd e
    returned_all (Returned looks waits) nx lk wt e e' = e.0

    after_clear : (a : WalkReply) (walk : WalkRecord) → EndsHere walk.next walk.looks walk.waits a → any_true (extra_rows (readers s.words) (publisher s p at_place (place_after 37 a) walk≔ walk)) ≡ false
    after_clear (Waiting r) walk e = extra_clear (readers s.words) (publisher s p at_place place_raised walk≔ walk) (omega arith) (λ eq. omega arith) (λ l l'. e.0)
    after_clear Spent walk e = extra_clear (readers s.words) (publisher s p at_place place_raised walk≔ walk) (omega arith) (λ eq. omega arith) (λ l l'. e.0)
    after_clear Quiet walk e = absurd e
    after_clear (Returned looks waits) walk e = extra_clear (readers s.words) (publisher s p at_place place_returned walk≔ walk) (omega arith) (λ eq. omega arith) (λ l l'. absurd (omega arith))

    still_counted : (looks_of s (publisher s p).walk b).walk.looks ≡ (looks_of s (publisher s p).walk b).walk.next + (looks_of s (publisher s p).walk b).walk.waits
    still_counted = omega (arith, came.counted, i.own.counted p (omega arith))

    walk_kept : WholeInvariant damage_rules (invariant_of detector) z (kept.ghost_step g (Walk p b) (Walked (looks_of s (publisher s p).walk b).reply)) (walk s p (looks_of s (publisher s p).walk b)).after
    walk_kept =
        let result = looks_of s (publisher s p).walk b in
        walk_invariant detector damage_rules law z g s i p b lt (omega arith) (omega arith) result came.waits_are still_counted
        (λ e. none_pending (returned_all result.reply _ _ _ came.ends (rw at37 at e))) came.mark_same (rw at37 (after_clear result.reply result.walk came.ends)) still_behind

start_shown : (z : Given) (s : State) → z.readers ≤ readers_max → (r : ℕ) → Shown (version (made kind_new fresh_reader z s).words) (readers (made kind_new fresh_reader z s).words) r (reader_at (made kind_new fresh_reader z s).words r)
start_shown z s high r = rw (fresh_reader_lem kind_new z.readers z.publishers z.slots z.version fresh_reader r)
    (choose_split (λ (x : Reader). Shown (version (made kind_new fresh_reader z s).words) (readers (made kind_new fresh_reader z s).words) r x) (ltb r readers_max)
    (λ _. record { first_low = omega arith; second_low = omega arith; shown = λ l'. absurd (omega arith); out = λ rn l'. refl })
    (λ e. record {
      first_low = omega arith;
      second_low = omega arith;
      shown = λ l'. absurd (omega arith);
      out = λ rn l'. absurd (omega (arith, ltb-false r readers_max e, fresh_head kind_new z.readers z.publishers z.slots z.version fresh_reader readers_at (omega arith)));
    }))

-- The numbers that a return comes with.
return_numbers : (w : List ℕ) (n mark start b looks waits nx lk wt : ℕ) (a : WalkReply) → Ends w n mark start b nx lk wt a → a ≡ Returned looks waits → (nx ≡ n) × (looks ≡ lk) × (waits ≡ wt)
return_numbers w n mark start b looks waits nx lk wt (Waiting r) e e' = absurd (let no : ◌≡◌ {A = ℕ} 0 1 = cc in omega arith)
return_numbers w n mark start b looks waits nx lk wt Spent e e' = absurd (let no : ◌≡◌ {A = ℕ} 0 1 = cc in omega arith)
return_numbers w n mark start b looks waits nx lk wt Quiet e e' = absurd e
return_numbers w n mark start b looks waits nx lk wt (Returned looks' waits') e e' = let same-looks : looks' ≡ looks = cc in let same-waits : waits' ≡ waits = cc in (e.0, sym same-looks ∙ e.2, sym same-waits ∙ e.3)

return_shown : (z : Given) (g : Ghost) (s : State) (i : WholeInvariant damage_rules (invariant_of detector) z g s) (p b looks waits : ℕ) → p < publishers s.words → eqb (publisher s p).place place_raised ≡ true
    → (looks_of s (publisher s p).walk b).reply ≡ Returned looks waits → Back traits z g p looks waits
return_shown z g s i p b looks waits lt turn e =
    let at37 = eqb-true (publisher s p).place 37 turn in
    let result = looks_of s (publisher s p).walk b in
    let facts = came z g s i p b lt at37 in
    let numbers = return_numbers s.words (readers s.words) (publisher s p).walk.mark (publisher s p).walk.next b looks waits result.walk.next result.walk.looks result.walk.waits result.reply facts.ends e in
    return_from_invariant detector damage_rules law z g s i p b lt (omega arith) (omega arith) result facts.waits_are (still_counted z g s i p b lt at37) traits looks waits at37 e
    (none_pending z g s i p b lt at37 numbers.0) numbers.1 numbers.2 (numbers.0 ∙ i.shared.every.sized.readers_are)

no_looks : (s : State) (p : ℕ) → looks_of s (publisher s p).walk 0 ≡ record { walk = (publisher s p).walk; reply = Spent }
unfolding looks_from
no_looks s p = refl

-- All that only the new store can show: a walk passes each reader, ENTER goes 1, 2, 3, 4, 5.
pub kind_shows : KindShows fixed traits
kind_shows = record {
  kind_law = law;
  first_is = refl;
  lacks_is = λ c. refl;
  apart_is = refl;
  none_retired = refl;
  exclusive_is = refl;
  successor_is = refl;
  raises_in_lem = λ phase. refl;
  walks_in_lem = λ phase. refl;
  greatest_fits = λ ver l. le-ltb last_version ver l;
  fits_to_greatest = λ ver e. ltb-false last_version ver e;
  last_is = λ ver fits. refl;
  raises_late = λ pl l. ne_eqb pl 35 (λ e. omega arith);
  walks_late = λ pl l. ne_eqb pl 37 (λ e. omega arith);
  mark_stays = λ s p b. looks_mark s.words (readers s.words) (publisher s p).walk.mark (publisher s p).walk.waits b (publisher s p).walk.next (publisher s p).walk.looks;
  no_looks = no_looks;
  KindInvariant = invariant_of detector;
  start_own = λ z s f. start_own detector kind_new fresh_reader z s (start_shown z s f.readers_high);
  fresh_is = λ z. refl;
  fresh_reader_fits = λ rs ss. refl;
  no_further = λ z g s i. refl;
  early_own = early_own detector;
  enter_moves = λ s f r l. reader_moves f r (entered s r) l;
  left = λ s r. leaving (reader s r);
  leave_moves = λ s f r l. reader_moves f r (leaving (reader s r)) l;
  enter_place = λ s f r l low. onward_place (version s.words) (current s.words) (reader s r) (reader s r).place low;
  enter_head = λ _ s r j l. head_reader s.words r (entered s r) j l;
  leave_head = λ _ s r j l. head_reader s.words r (leaving (reader s r)) j l;
  enter_stays = λ s r low. onward_stays (version s.words) (current s.words) (reader s r) (reader s r).place low;
  leave_stays = λ s r. record { first = refl; second = refl; published = λ e. clash e; picked = refl };
  enter_kept = enter_kept;
  leave_kept = leave_kept;
  sync_kept = sync_kept;
  raise_kept = raise_kept;
  walk_kept = λ z g s i p b lt turn. walk_kept z g s i p b lt (eqb-true (publisher s p).place 37 turn);
  return_shown = return_shown;
}

-- The invariant after every list from fresh.
pub new_reached : (s : State) (f : Fresh GraceVersion s) (cs : List Call)
    → WholeInvariant damage_rules (invariant_of detector) f.arguments (kept.after_events (kept.ghost₀ f.arguments.readers (traits.every.first_table f.arguments)) (events GraceVersion s cs)) (after_all GraceVersion s cs)
unfolding kind_shows
new_reached s f cs = reached fixed traits kind_shows s f cs
