-- Demand 3 and its companions of a kind with sections, SYNC and WALK, from what only that kind can show: its own invariant, and that its
-- ENTER, LEAVE, SYNC, RAISE and WALK keep it. Assumes nothing.
use Rattle.std.specs.Prelude.{ℕ, ◌+◌, ◌%◌, ◌<◌, ◌≤◌, ◌≢◌, Bool, not, ℤ, pos, eqb}
use Rattle.std.proofs.Common.{arith, sym, ap, ◌∙◌, length-set, get_or-set_same, get_or-set_other}
use Rattle.std.proofs.Math.Path.{◌≡◌, refl, subst}
use Rattle.std.proofs.Math.Bool.{true, false}
use mathlib.Core.List.{List, [], ◌∷◌}
use borrow.Author.Tests.{eqb-true, eq-eqb, leb-false, lt-leb, lt-ltb, ltb-false, le-ltb, not-false}
use Rattle.base.specs.RowLaws.{clash, or_false, neither, negated, within, AllClear, all_above, all_above_lem}
use Rattle.calls.specs.declared.Call.{Call}
use Rattle.calls.specs.declared.Call.TheVariants.{Enter, Look, Leave, Claim, Write, Swap, Sync, Raise, Walk, Release, Pick, Checkpoint, Defer}
use Rattle.calls.specs.declared.Reply.{Reply}
use Rattle.calls.specs.declared.Reply.TheVariants.{Made, At, Walked, Freed, Refused}
use Rattle.calls.specs.declared.WalkReply.TheVariants.{Spent, Returned}
use Rattle.calls.specs.Numbers.{table_length, readers_max, number_max, number_modulus, place_idle, place_claimed, place_written, place_swapped, place_returned, damaged_number, version_is_last_number}
use Rattle.calls.specs.ReplyNumbersLaws.{Representable}
use Rattle.calls.specs.Events.{accepted}
use Rattle.calls.specs.Events.Event.{◌⇒◌}
use Rattle.calls.specs.Tally.{Phase, first_place}
use Rattle.calls.specs.Tally.Phase.{swapped, returned}
use Rattle.layout.specs.declared.Reader.{Reader}
use Rattle.layout.specs.declared.Publisher.{Publisher}
use Rattle.layout.specs.Layout.{readers_at, publishers_at, slots_at, current_at, version_at, releases_at, readers, publishers, slots, current, version, no_publisher}
use Rattle.layout.specs.Records.{◌at_place◌, ◌held≔◌}
use Rattle.layout.specs.Laws.{publisher_back, fresh_head, fresh_long, fresh_indicator, fresh_reader_lem, fresh_publisher, fresh_retirement, fresh_retired}
use Rattle.statement.specs.Machine.{State, state, Outcome, outcome, Given, Fresh, events, after_all, retires}
use Rattle.statement.specs.Demand3.{Demand3}
use Rattle.statement.specs.Frame.{PlaceAndOne, LeaveStays, next_entry, Writes}
use Rattle.publication_tables.specs.FillLaws.{tables_long, tables_entry}
use Rattle.statement.specs.Companions.{GraceTraits, IsFresh, MakesFresh, MakingFits, MakingAccepts, MakingOnly, Named, InTurn, StateCompanions, GraceStateCompanions, GraceCompanions}
use Rattle.statement.specs.KeptInvariant.{Ghost, ghost₀, ghost_step, after_event, after_events, Back, GraceKeptInvariant, kept_after, grace_demand3, grace_companions}
use Rattle.publication_law.specs.Steps.{reader, publisher, one_more, making_tests, made}
use Rattle.publication_law.specs.Clear.{MakingClear}
use Rattle.publication_law.proofs.Clear.{making_clear, table_is_good, making_fits, fitting_clear, claim_clear}
use Rattle.publication_law.specs.Damage.{shared_damage}
use Rattle.publication_law.specs.Table.{damaged, rows, step, making, machine}
use Rattle.publication_law.specs.SectionRules.{SectionRules, without_sections, table_by}
use Rattle.publication_law.specs.DamageLaws.{undamaged_to, publisher_below}
use Rattle.publication_law.specs.Moves.{publisher_moves, publisher_moves_head}
use Rattle.publication_law.specs.Phases.{phase_at}
use Rattle.publication_law.specs.PhaseLaws.{phase_turn}
use Rattle.publication_law.specs.KindLaw.{place_bounded, undamaged_publisher, early_fits}
use Rattle.publication_law.proofs.Keeps.{claim_keeps, write_keeps, swap_keeps, slots_right, picks_right, table_right, placed, idle_told, former_told}
use Rattle.publication_law.specs.Served.{SharedCalls}
use Rattle.publication_law.proofs.Served.{named_reader, named_publisher, publisher_placed, writer_placed, look_turn, claim_turn, write_turn, swap_turn, look_shelf, claim_not_picked, look_accepted, claims_on, refused_busy, writes_on, swaps_on}
use Rattle.publication_law.proofs.GraceKeeps.{early_keeps, release_keeps, released_in_order, idle_empty, moved_publisher_undamaged, made_grace_invariant}
use Rattle.publication_law.specs.TableLaws.{ActFacts, ActLaws}
use Rattle.publication_law.proofs.TableLaws.{lacked_refused, only_damaged}
use Rattle.publication_law.proofs.Calls.{step_undamaged, undamaged_facts}
use Rattle.publication_law.specs.Decide.{raise_split, decided, decide_accepts}
use Rattle.publication_law.proofs.Frames.{same_framed, reader_framed, claim_framed, write_framed, swap_framed, sync_framed, raise_framed, walk_framed, release_framed}
use Rattle.publication_law.specs.KindShows.{WholeInvariant, KindShows}

-- LOOK, CLAIM, WRITE and SWAP of an undamaged store are the shared ones.
pub shared_calls_of : (R : SectionRules) (s : State) → damaged (table_by R) s ≡ false → SharedCalls R.exclusive (retires R.damage.number) (machine (table_by R)) s
shared_calls_of R s sound = record {
  looks = λ r k. sym (step_undamaged (table_by R) s (Look r k) sound);
  claims = λ p slot. sym (step_undamaged (table_by R) s (Claim p slot) sound);
  writes = λ p v. sym (step_undamaged (table_by R) s (Write p v) sound);
  swaps = λ p. sym (step_undamaged (table_by R) s (Swap p) sound);
}

module _ (R : SectionRules) (traits : GraceTraits) (L : KindShows R traits) where
  -- What each call's rows and act show of themselves.
  numbers_above_1 : (s : State) (c : Call) → all_above damaged_number ((table_by R).tests s c) ≡ true
  numbers_above_1 s (Enter r) = refl
  numbers_above_1 s (Look r k) = refl
  numbers_above_1 s (Leave r) = refl
  numbers_above_1 s (Claim p slot) = refl
  numbers_above_1 s (Write p v) = refl
  numbers_above_1 s (Swap p) = refl
  numbers_above_1 s (Sync p) = refl
  numbers_above_1 s (Raise p) = refl
  numbers_above_1 s (Walk p b) = refl
  numbers_above_1 s (Release p) = refl
  numbers_above_1 s (Pick r) = refl
  numbers_above_1 s (Checkpoint r) = refl
  numbers_above_1 s (Defer p) = refl

  act_facts : (s : State) (c : Call) → AllClear (rows (table_by R) s c) → ActFacts traits.every.publishes s c ((table_by R).act s c)
  act_facts s (Enter r) f = record {
    accepts = refl;
    representable = λ _. tt;
    framed = reader_framed traits.every.publishes (Enter r) _ _ r _ (L.enter_moves s (undamaged_facts (table_by R) s f.0) r (leb-false _ _ f.1.0)) refl refl (λ e. L.enter_head e s r)
        (λ e. subst (λ (x : Reader). PlaceAndOne (reader s r) x) (sym e) (L.enter_stays s r (let less = leb-false 5 (reader s r).place f.1.1.0 in omega arith)));
    entries_stay = λ _. refl;
  }
  act_facts s (Look r k) f = record { accepts = refl; representable = λ n. n _; framed = same_framed traits.every.publishes (Look r k) s.words; entries_stay = λ _. refl }
  act_facts s (Leave r) f = record {
    accepts = refl;
    representable = λ _. tt;
    framed = reader_framed traits.every.publishes (Leave r) _ _ r _ (L.leave_moves s (undamaged_facts (table_by R) s f.0) r (leb-false _ _ f.1.0)) refl refl (λ e. L.leave_head e s r)
        (λ e. subst (λ (x : Reader). LeaveStays traits.every.publishes (reader s r) x) (sym e) (L.leave_stays s r));
    entries_stay = λ _. refl;
  }
  act_facts s (Claim p slot) f = record { accepts = refl; representable = λ _. tt; framed = claim_framed traits.every.publishes R.damage s (undamaged_facts (table_by R) s f.0) R.exclusive (retires R.damage.number) p slot (claim_clear R.exclusive (retires R.damage.number) s p slot f.1); entries_stay = λ _. refl }
  act_facts s (Write p v) f = record { accepts = refl; representable = λ _. tt; framed = write_framed traits.every.publishes R.damage s (undamaged_facts (table_by R) s f.0) p v f.1; entries_stay = λ ne. absurd (ne p v refl) }
  act_facts s (Swap p) f = record { accepts = refl; representable = λ _. tt; framed = swap_framed traits.every.publishes R.damage s (undamaged_facts (table_by R) s f.0) p f.1; entries_stay = λ _. refl }
  act_facts s (Sync p) f = record { accepts = refl; representable = λ _. tt; framed = sync_framed traits.every.publishes R.damage s (undamaged_facts (table_by R) s f.0) R.damage.versions p f.1; entries_stay = λ _. refl }
  act_facts s (Raise p) f = record {
    accepts = raise_split (λ (o : Outcome). accepted o.reply ≡ true) R.damage.versions s p (λ _. refl) refl;
    representable = λ _. raise_split (λ (o : Outcome). Representable o.reply) R.damage.versions s p (λ _. tt) tt;
    framed = raise_framed traits.every.publishes R.damage s (undamaged_facts (table_by R) s f.0) R.damage.versions p (leb-false _ _ f.1.0);
    entries_stay = λ _. raise_split (λ (o : Outcome). o.after.entries ≡ s.entries) R.damage.versions s p (λ _. refl) refl;
  }
  act_facts s (Walk p b) f = record { accepts = refl; representable = λ _. tt; framed = walk_framed traits.every.publishes R.damage s (undamaged_facts (table_by R) s f.0) p b (R.looks s p b) (leb-false _ _ f.1.0) (L.mark_stays s p b); entries_stay = λ _. refl }
  act_facts s (Release p) f = record { accepts = refl; representable = λ _. tt; framed = release_framed traits.every.publishes R.damage s (undamaged_facts (table_by R) s f.0) p f.1; entries_stay = λ _. refl }
  act_facts s (Pick r) f = absurd (clash f.0)
  act_facts s (Checkpoint r) f = absurd (clash f.0)
  act_facts s (Defer p) f = absurd (clash f.0)

  -- An accepted WRITE stores the next entry of the slot held, which is one of the entries.
  writes_right : (s : State) (p : ℕ) (v : ℤ) → AllClear (rows (table_by R) s (Write p v)) → Writes s p v ((table_by R).act s (Write p v))
  writes_right s p v f =
      let no_damage = undamaged_facts (table_by R) s f.0 in
      let range = within 1 32 (publisher s p).place f.1.1.1.0 in
      let held = (undamaged_publisher L.kind_law (readers s.words) (slots s.words) (publisher s p) (no_damage.publishers_undamaged p (leb-false _ _ f.1.0))).held_below range.0 in record {
        stored = λ _. get_or-set_same s.entries (next_entry s p) v (pos 0) (omega (arith, no_damage.head.entries_are, range.0, range.1, held));
        others = λ j ne. get_or-set_other s.entries (next_entry s p) j v (pos 0) ne;
        long = length-set s.entries (next_entry s p) v;
      }

  pub act_laws_of : ActLaws (λ s. traits.every.publishes) (table_by R)
  act_laws_of = record { numbers_above_1 = λ s c _. numbers_above_1 s c; making_numbers = λ z s. refl; acts = act_facts; writes = writes_right }

  pub all_numbers : (s : State) (c : Call) → all_above 0 (rows (table_by R) s c) ≡ true
  all_numbers s c = all_above_lem damaged_number 0 (omega arith) ((table_by R).tests s c) (numbers_above_1 s c)

  -- An accepted call names what the store has.
  named_clear : (s : State) (c : Call) → without_sections c ≡ false → AllClear ((table_by R).tests s c) → Named (readers s.words) (publishers s.words) (slots s.words) c
  named_clear s (Enter r) has f = leb-false _ _ f.0
  named_clear s (Look r k) has f = (leb-false _ _ f.0, leb-false table_length k f.1.0)
  named_clear s (Leave r) has f = leb-false _ _ f.0
  named_clear s (Claim p slot) has f = (leb-false _ _ f.0, leb-false _ _ f.1.0)
  named_clear s (Write p v) has f = (leb-false _ _ f.0, f.1.0)
  named_clear s (Swap p) has f = leb-false _ _ f.0
  named_clear s (Sync p) has f = leb-false _ _ f.0
  named_clear s (Raise p) has f = leb-false _ _ f.0
  named_clear s (Walk p b) has f = leb-false _ _ f.0
  named_clear s (Release p) has f = leb-false _ _ f.0
  named_clear s (Pick r) has f = absurd (clash has)
  named_clear s (Checkpoint r) has f = absurd (clash has)
  named_clear s (Defer p) has f = absurd (clash has)

  pub named_of : (s : State) (c : Call) → accepted (step (table_by R) s c).reply ≡ true → Named (readers s.words) (publishers s.words) (slots s.words) c
  unfolding step
  named_of s c = decided (λ (o : Outcome). accepted o.reply ≡ true → Named (readers s.words) (publishers s.words) (slots s.words) c) (rows (table_by R) s c) ((table_by R).act s c) s (all_numbers s c)
      (λ f ok. named_clear s c (or_false (without_sections c) (damaged (table_by R) s) f.0).0 f.1) (λ ok. clash (sym ok))

  -- Each step keeps the invariant.
  module _ (z : Given) (g : Ghost) (s : State) (i : WholeInvariant R.damage L.KindInvariant z g s) where
    After : Call → Outcome → Type 0
    After c o = WholeInvariant R.damage L.KindInvariant z (after_event g (c ⇒ o.reply)) o.after

    undamaged_now : damaged (table_by R) s ≡ false
    unfolding damaged
    undamaged_now = neither (shared_damage R.damage s) (R.further s) (undamaged_to R.damage s i.shared.every.no_damage) (L.no_further z g s i)

    claim_kept : (p slot : ℕ) → AllClear ((table_by R).tests s (Claim p slot)) → After (Claim p slot) ((table_by R).act s (Claim p slot))
    unfolding After
    claim_kept p slot f =
        let ok = claim_clear R.exclusive (retires R.damage.number) s p slot f in
        let y : Publisher = publisher s p at_place place_claimed held≔ slot in
        let at-place-0 : (publisher s p).place ≡ place_idle = ok.in_turn in
        let m = publisher_moves i.shared.every.no_damage p y ok.publisher_named_lem in record {
          shared = early_keeps R.damage z g s i.shared _ _ _ p y _ _ m
              (claim_keeps R.damage z g s i.shared.every R.exclusive p slot ok (early_fits L.kind_law (readers s.words) (slots s.words) y (omega arith) (λ _. ok.slot_named)))
              refl refl refl refl (omega arith) (omega arith);
          own = L.early_own g _ s _ _ p y _ _ i.own refl m refl (omega arith);
        }

    write_kept : (p : ℕ) (v : ℤ) → AllClear ((table_by R).tests s (Write p v)) → After (Write p v) ((table_by R).act s (Write p v))
    unfolding After
    write_kept p v f =
        let lt : p < publishers s.words = leb-false _ _ f.0 in
        let range = within 1 32 (publisher s p).place f.1.1.0 in
        let y : Publisher = publisher s p at_place ((publisher s p).place + 1) in
        let low-now : (publisher s p).place + 1 ≤ 34 = omega (arith, range.1) in
        let held_below : (publisher s p).held < slots s.words = (moved_publisher_undamaged R.damage L.kind_law z g s i.shared p lt).held_below range.0 in
        let m = publisher_moves i.shared.every.no_damage p y lt in record {
          shared = early_keeps R.damage z g s i.shared _ _ _ p y _ _ m
              (write_keeps R.damage z g s i.shared.every p v f held_below (early_fits L.kind_law (readers s.words) (slots s.words) y low-now (λ _. held_below)))
              refl refl refl refl (omega arith) low-now;
          own = L.early_own g _ s _ _ p y _ _ i.own refl m refl low-now;
        }

    swap_kept : (p : ℕ) → AllClear ((table_by R).tests s (Swap p)) → After (Swap p) ((table_by R).act s (Swap p))
    unfolding After
    swap_kept p f =
        let lt : p < publishers s.words = leb-false _ _ f.0 in
        let at33 : (publisher s p).place ≡ place_written = eqb-true _ _ (not-false _ f.1.0) in
        let y : Publisher = publisher s p at_place place_swapped held≔ current s.words in
        let m = publisher_moves_head i.shared.every.no_damage p y lt current_at (publisher s p).held (omega arith) (omega arith) in record {
          shared = early_keeps R.damage z g s i.shared _ _ _ p y _ _ m
              (swap_keeps R.damage z g s i.shared.every p f ((moved_publisher_undamaged R.damage L.kind_law z g s i.shared p lt).held_below (omega arith))
              (early_fits L.kind_law (readers s.words) (slots s.words) y (omega arith) (λ _. i.shared.every.no_damage.head.current_below)))
              refl refl refl refl (omega arith) (omega arith);
          own = L.early_own g _ s _ _ p y _ _ i.own refl m refl (omega arith);
        }

    release_kept : (p : ℕ) → AllClear ((table_by R).tests s (Release p)) → After (Release p) ((table_by R).act s (Release p))
    unfolding After
    release_kept p f =
        let y : Publisher = publisher s p at_place place_idle in record {
          shared = release_keeps R.damage z g s i.shared L.none_retired p f (early_fits L.kind_law (readers s.words) (slots s.words) y (omega arith) (λ l. absurd (omega arith)));
          own = L.early_own g _ s _ _ p y _ _ i.own refl
              (publisher_moves_head i.shared.every.no_damage p y (leb-false _ _ f.0) releases_at (one_more s) (omega arith) (omega arith)) refl (omega arith);
        }

    raised_kept : (p : ℕ) → AllClear ((table_by R).tests s (Raise p)) → After (Raise p) ((table_by R).act s (Raise p))
    unfolding After
    raised_kept p f = raise_split (λ (o : Outcome). WholeInvariant R.damage L.KindInvariant z (ghost_step g (Raise p) o.reply) o.after → WholeInvariant R.damage L.KindInvariant z (after_event g (Raise p ⇒ o.reply)) o.after)
        R.damage.versions s p (λ _ kept-now. record { shared = kept-now.shared; own = kept-now.own }) (λ kept-now. record { shared = kept-now.shared; own = kept-now.own })
        (L.raise_kept z g s i p (leb-false _ _ f.0) (not-false _ f.1.0))

    act_kept : (c : Call) → AllClear (rows (table_by R) s c) → After c ((table_by R).act s c)
    unfolding After
    act_kept (Enter r) f = L.enter_kept z g s i r f.1
    act_kept (Look r k) f = record { shared = i.shared; own = i.own }
    act_kept (Leave r) f = L.leave_kept z g s i r f.1
    act_kept (Claim p slot) f = claim_kept p slot f.1
    act_kept (Write p v) f = write_kept p v f.1
    act_kept (Swap p) f = swap_kept p f.1
    act_kept (Sync p) f = L.sync_kept z g s i p f.1
    act_kept (Raise p) f = raised_kept p f.1
    act_kept (Walk p b) f = L.walk_kept z g s i p b (leb-false _ _ f.1.0) (not-false _ f.1.1.0)
    act_kept (Release p) f = release_kept p f.1
    act_kept (Pick r) f = absurd (clash f.0)
    act_kept (Checkpoint r) f = absurd (clash f.0)
    act_kept (Defer p) f = absurd (clash f.0)

    stepped : (c : Call) → WholeInvariant R.damage L.KindInvariant z (after_event g (c ⇒ (step (table_by R) s c).reply)) (step (table_by R) s c).after
    unfolding After step
    stepped c = decided (After c) (rows (table_by R) s c) ((table_by R).act s c) s (all_numbers s c) (λ f. act_kept c f) i

    return_back : (p b looks waits : ℕ) → (step (table_by R) s (Walk p b)).reply ≡ Walked (Returned looks waits) → Back traits z g p looks waits
    unfolding step
    return_back p b looks waits = decided (λ (o : Outcome). o.reply ≡ Walked (Returned looks waits) → Back traits z g p looks waits) (rows (table_by R) s (Walk p b)) ((table_by R).act s (Walk p b)) s refl
        (λ f e. L.return_shown z g s i p b looks waits (leb-false _ _ f.1.0) (not-false _ f.1.1.0) (cc))
        (λ e. absurd (let no : ◌≡◌ {A = ℕ} 0 1 = cc in omega arith))

    release_order : (p : ℕ) → accepted (step (table_by R) s (Release p)).reply ≡ true → g.tally.phase p ≡ returned
    unfolding step
    release_order p = decided (λ (o : Outcome). accepted o.reply ≡ true → g.tally.phase p ≡ returned) (rows (table_by R) s (Release p)) ((table_by R).act s (Release p)) s refl
        (λ f ok. released_in_order R.damage z g s i.shared p f.1) (λ ok. clash (sym ok))

    not_damaged : (c : Call) → without_sections c ≡ false → (step (table_by R) s c).reply ≢ Refused damaged_number
    not_damaged c has = only_damaged (λ s. traits.every.publishes) (table_by R) act_laws_of s c has undamaged_now

    accepts : (c : Call) → without_sections c ≡ false → AllClear ((table_by R).tests s c) → step (table_by R) s c ≡ (table_by R).act s c
    unfolding step
    accepts c has f = decide_accepts (rows (table_by R) s c) ((table_by R).act s c) s (neither (without_sections c) (damaged (table_by R) s) has undamaged_now, f)

    -- What every kind serves.
    shared_calls : SharedCalls R.exclusive (retires R.damage.number) (machine (table_by R)) s
    shared_calls = shared_calls_of R s undamaged_now

    syncs_on : (p : ℕ) → p < z.publishers → g.tally.phase p ≡ swapped → traits.is_last (version s.words) ≡ false → accepted (step (table_by R) s (Sync p)).reply ≡ true
    syncs_on p pn ph more = rw (accepts (Sync p) refl (named_publisher R.damage z g s i.shared.every p pn, (negated _ (eq-eqb (publisher s p).place 34 (placed R.damage z g s i.shared.every p swapped ph)), (L.last_is (version s.words) i.shared.every.no_damage.head.version_fits ∙ more, tt)))) refl

    syncs_not_at_last_on : (p : ℕ) → p < z.publishers → g.tally.phase p ≡ swapped → traits.is_last (version s.words) ≡ true → (step (table_by R) s (Sync p)).reply ≡ Refused version_is_last_number
    unfolding step
    syncs_not_at_last_on p pn ph last = rw (undamaged_now, named_publisher R.damage z g s i.shared.every p pn, eq-eqb (publisher s p).place 34 (placed R.damage z g s i.shared.every p swapped ph), L.last_is (version s.words) i.shared.every.no_damage.head.version_fits ∙ last) refl

    -- Whether RAISE and WALK are in turn is told by the phase.
    turn_told : (f : ℕ → Bool) → ((pl : ℕ) → pl ≤ place_swapped → f pl ≡ false) → (p : ℕ) → p < publishers s.words → f (first_place (g.tally.phase p)) ≡ f (publisher s p).place
    turn_told f early p lt = rw (i.shared.every.phases.phases p)
        (phase_turn f early (publisher s p).place (place_bounded L.kind_law (readers s.words) (slots s.words) (publisher s p) (i.shared.every.no_damage.publishers_undamaged p lt)))

    raise_told : (p : ℕ) → p < publishers s.words → traits.every.raises_in (g.tally.phase p) ≡ R.raises_at (publisher s p).place
    raise_told p lt = L.raises_in_lem (g.tally.phase p) ∙ turn_told R.raises_at L.raises_late p lt

    walk_told : (p : ℕ) → p < publishers s.words → traits.every.walks_in (g.tally.phase p) ≡ R.walks_at (publisher s p).place
    walk_told p lt = L.walks_in_lem (g.tally.phase p) ∙ turn_told R.walks_at L.walks_late p lt

    raises_on : (p : ℕ) → p < z.publishers → traits.every.raises_in (g.tally.phase p) ≡ true → accepted (step (table_by R) s (Raise p)).reply ≡ true
    raises_on p pn e =
        let turn : R.raises_at (publisher s p).place ≡ true = sym (raise_told p (leb-false _ _ (named_publisher R.damage z g s i.shared.every p pn))) ∙ e in
        let f : AllClear ((table_by R).tests s (Raise p)) = (named_publisher R.damage z g s i.shared.every p pn, (negated _ turn, tt)) in
        rw (accepts (Raise p) refl f) (act_facts s (Raise p) (undamaged_now, f)).accepts

    walks_on : (p b : ℕ) → p < z.publishers → traits.every.walks_in (g.tally.phase p) ≡ true → (publisher s p).walk.looks + b ≤ number_max → accepted (step (table_by R) s (Walk p b)).reply ≡ true
    walks_on p b pn e few-looks =
        let turn : R.walks_at (publisher s p).place ≡ true = sym (walk_told p (leb-false _ _ (named_publisher R.damage z g s i.shared.every p pn))) ∙ e in
        rw (accepts (Walk p b) refl (named_publisher R.damage z g s i.shared.every p pn, (negated _ turn, (le-ltb number_max ((publisher s p).walk.looks + b) few-looks, tt)))) refl

    named_right : (c : Call) → accepted (step (table_by R) s c).reply ≡ true → Named z.readers z.publishers z.slots c
    named_right = rw (← i.shared.every.sized.readers_are, ← i.shared.every.sized.publishers_are, ← i.shared.every.sized.slots_are) (named_of s)

    -- An accepted call is in its turn.
    at_phase : (p pl : ℕ) (phase : Phase) → eqb (publisher s p).place pl ≡ true → phase_at pl ≡ phase → g.tally.phase p ≡ phase
    at_phase p pl phase e is = i.shared.every.phases.phases p ∙ (ap phase_at (eqb-true (publisher s p).place pl e) ∙ is)

    turn_clear : (c : Call) → without_sections c ≡ false → AllClear ((table_by R).tests s c) → InTurn traits.every g.model g.told g.tally c
    turn_clear (Enter r) has f = let l = leb-false 5 (reader s r).place f.1.0 in omega (arith, i.shared.every.phases.places r)
    turn_clear (Look r k) has f = look_turn R.damage z g s i.shared.every r k f
    turn_clear (Leave r) has f = let l = ltb-false (reader s r).place 4 f.1.0 in omega (arith, i.shared.every.phases.places r)
    turn_clear (Claim p slot) has f = claim_turn R.damage z g s i.shared.every R.exclusive p slot f
    turn_clear (Write p v) has f = write_turn R.damage z g s i.shared.every p v f
    turn_clear (Swap p) has f = swap_turn R.damage z g s i.shared.every p f
    turn_clear (Sync p) has f = at_phase p 34 swapped (not-false _ f.1.0) refl
    turn_clear (Raise p) has f = raise_told p (leb-false _ _ f.0) ∙ not-false _ f.1.0
    turn_clear (Walk p b) has f = walk_told p (leb-false _ _ f.0) ∙ not-false _ f.1.0
    turn_clear (Release p) has f = released_in_order R.damage z g s i.shared p f
    turn_clear (Pick r) has f = absurd (clash has)
    turn_clear (Checkpoint r) has f = absurd (clash has)
    turn_clear (Defer p) has f = absurd (clash has)

    turn_right : (c : Call) → accepted (step (table_by R) s c).reply ≡ true → InTurn traits.every g.model g.told g.tally c
    unfolding step
    turn_right c = decided (λ (o : Outcome). accepted o.reply ≡ true → InTurn traits.every g.model g.told g.tally c) (rows (table_by R) s c) ((table_by R).act s c) s (all_numbers s c)
        (λ f ok. turn_clear c (or_false (without_sections c) (damaged (table_by R) s) f.0).0 f.1) (λ ok. clash (sym ok))

    frees_on : (p : ℕ) → p < z.publishers → g.tally.phase p ≡ returned
        → (slot : ℕ) × (g.told.former p slot ≡ true) × ((step (table_by R) s (Release p)).reply ≡ Freed slot ((g.tally.releases + 1) % number_modulus))
    frees_on p pn ph =
        let at = placed R.damage z g s i.shared.every p returned ph in
        let top = place_bounded L.kind_law (readers s.words) (slots s.words) (publisher s p) (i.shared.every.no_damage.publishers_undamaged p (leb-false _ _ (named_publisher R.damage z g s i.shared.every p pn))) in
        let turn : not (eqb (publisher s p).place place_returned) ≡ false = negated _ (eq-eqb (publisher s p).place 38 (omega arith)) in
        let n : one_more s ≡ (g.tally.releases + 1) % number_modulus = omega (arith, i.shared.tallied.releases_are) in
        ((publisher s p).held, former_told R.damage z g s i.shared.every p (omega arith), rw (accepts (Release p) refl (named_publisher R.damage z g s i.shared.every p pn, (turn, tt)), n) refl)

    state_companions : StateCompanions (machine (table_by R)) traits.every z g.model g.told g.tally s
    state_companions = record {
      undamaged = λ c has. not_damaged c (sym (L.lacks_is c) ∙ has);
      lacked = λ c lacks. lacked_refused (table_by R) s c (sym (L.lacks_is c) ∙ lacks);
      named = named_right;
      in_turn = turn_right;
      reader_placed = λ r. sym (i.shared.every.phases.places r);
      publisher_placed = λ p pn. publisher_placed R.damage z g s i.shared.every p
          (place_bounded L.kind_law (readers s.words) (slots s.words) (publisher s p) (i.shared.every.no_damage.publishers_undamaged p (leb-false _ _ (named_publisher R.damage z g s i.shared.every p pn))));
      writer_placed = writer_placed R.damage z g s i.shared.every;
      looks = look_accepted R.damage z g s i.shared.every R.exclusive (machine (table_by R)) shared_calls;
      claims = rw L.exclusive_is (claims_on R.damage z g s i.shared.every R.exclusive (machine (table_by R)) shared_calls);
      busy = rw L.exclusive_is (refused_busy R.damage z g s i.shared.every R.exclusive (machine (table_by R)) shared_calls);
      idle_if = idle_told R.damage z g s i.shared.every;
      writes = writes_on R.damage z g s i.shared.every R.exclusive (machine (table_by R)) shared_calls;
      swaps = swaps_on R.damage z g s i.shared.every R.exclusive (machine (table_by R)) shared_calls;
    }

    grace_state_companions : GraceStateCompanions (machine (table_by R)) traits z g.model g.told g.tally s
    grace_state_companions = record {
      enters = λ r rn low.
          let same_place : g.tally.place r ≡ (reader s r).place = i.shared.every.phases.places r in
          let rs : r < readers s.words = omega (arith, i.shared.every.sized.readers_are) in
          rw (accepts (Enter r) refl (named_reader R.damage z g s i.shared.every r rn, (lt-leb 5 (reader s r).place (omega arith), tt)), same_place) (ap At (L.enter_place s i.shared.every.no_damage r rs (omega arith)));
      leaves = λ r rn four. rw (accepts (Leave r) refl (named_reader R.damage z g s i.shared.every r rn, (le-ltb (reader s r).place 4 (omega (arith, i.shared.every.phases.places r)), tt))) refl;
      idle_only_if = idle_empty R.damage z g s i.shared L.none_retired;
      syncs = syncs_on;
      syncs_not_at_last = syncs_not_at_last_on;
      raises = raises_on;
      walks = walks_on;
      frees = frees_on;
      counted = sym i.shared.tallied.releases_are;
    }

  -- A fresh store has the invariant.
  outcome_parts : (o : Outcome) (a : Reply) (s : State) → o ≡ outcome a s → (o.reply ≡ a) × (o.after ≡ s)
  outcome_parts o a s e = (ap (λ (o' : Outcome). o'.reply) e, ap (λ (o' : Outcome). o'.after) e)

  start : (s : State) (f : Fresh (machine (table_by R)) s) → WholeInvariant R.damage L.KindInvariant f.arguments (ghost₀ f.arguments.readers f.arguments.table) s
  unfolding making
  start s f = decided (λ (o : Outcome). o ≡ outcome Made s → WholeInvariant R.damage L.KindInvariant f.arguments (ghost₀ f.arguments.readers f.arguments.table) s) (making_tests false R.damage.versions f.arguments f.lent)
      (outcome Made (made R.damage.number R.fresh_reader f.arguments f.lent)) f.lent refl
      (λ ok e. subst (λ (s' : State). WholeInvariant R.damage L.KindInvariant f.arguments (ghost₀ f.arguments.readers f.arguments.table) s') (outcome_parts _ _ _ e).1 (record {
        shared = made_grace_invariant R.damage false R.fresh_reader f.arguments f.lent (making_clear false R.damage.versions f.arguments f.lent ok) (ap (λ (x : Reader). x.place) (L.fresh_is f.arguments)) (ap (λ (x : Reader). x.picked) (L.fresh_is f.arguments)) (L.fresh_reader_fits _ _) (early_fits L.kind_law f.arguments.readers f.arguments.slots no_publisher (omega arith) (λ l. absurd (omega arith)));
        own = L.start_own f.arguments f.lent (making_clear false R.damage.versions f.arguments f.lent ok);
      }))
      (λ e. absurd (let said = (outcome_parts _ _ _ e).0 in let no : ◌≡◌ {A = ℕ} 0 1 = cc in omega arith))
      f.made

  -- A fresh store is document 01's, number by number.
  made_is : (z : Given) (s : State) → MakingClear false R.damage.versions z s → IsFresh traits.every z (made R.damage.number R.fresh_reader z s)
  made_is z s ok =
      let number = R.damage.number in
      let x = R.fresh_reader in
      let head = fresh_head number z.readers z.publishers z.slots z.version x in record {
        long = fresh_long number z.readers z.publishers z.slots z.version x;
        readers_given = head readers_at (omega arith);
        publishers_given = head publishers_at (omega arith);
        slots_given = head slots_at (omega arith);
        version_given = head version_at (omega arith);
        current_is = head current_at (omega arith);
        releases_are = head releases_at (omega arith);
        indicators_are = fresh_indicator number z.readers z.publishers z.slots z.version x;
        readers_are = λ r l. fresh_reader_lem number z.readers z.publishers z.slots z.version x r ∙ rw (lt-ltb r readers_max l) (L.fresh_is z);
        publishers_are = fresh_publisher number z.readers z.publishers z.slots z.version x;
        retirements_are = fresh_retirement number z.readers z.publishers z.slots z.version x;
        retired_are = fresh_retired number z.readers z.publishers z.slots z.version x;
        table_good = table_is_good false R.damage.versions z s ok;
        entries_long = tables_long z.table ok.table_long z.slots;
        entries_are = tables_entry z.table ok.table_long z.slots;
      }

  pub makes_fresh_of : MakesFresh (machine (table_by R)) traits.every
  unfolding making
  makes_fresh_of s f = decided (λ (o : Outcome). o ≡ outcome Made s → IsFresh traits.every f.arguments s) (making_tests false R.damage.versions f.arguments f.lent)
      (outcome Made (made R.damage.number R.fresh_reader f.arguments f.lent)) f.lent refl
      (λ ok e. subst (IsFresh traits.every f.arguments) (outcome_parts _ _ _ e).1 (made_is f.arguments f.lent (making_clear false R.damage.versions f.arguments f.lent ok)))
      (λ e. absurd (let said = (outcome_parts _ _ _ e).0 in let no : ◌≡◌ {A = ℕ} 0 1 = cc in omega arith))
      f.made

  kept : GraceKeptInvariant (machine (table_by R)) traits
  kept = record {
    every = record {
      Inv = WholeInvariant R.damage L.KindInvariant;
      start = λ s f. rw L.first_is (start s f);
      keep = stepped;
      look = λ z g s i. look_shelf R.damage z g s i.shared.every R.exclusive (machine (table_by R)) (shared_calls z g s i);
      claim = λ z g s i. claim_not_picked R.damage z g s i.shared.every R.exclusive (machine (table_by R)) (shared_calls z g s i);
      slots = λ z g s i. slots_right R.damage z g s i.shared.every;
      picks = λ z g s i. picks_right R.damage z g s i.shared.every;
      table = λ z g s i. table_right R.damage z g s i.shared.every;
      state_companions = state_companions;
    };
    back = return_back;
    release = release_order;
    state_companions = grace_state_companions;
  }

  -- What the invariant gives after every list from fresh.
  pub reached : (s : State) (f : Fresh (machine (table_by R)) s) (cs : List Call) → WholeInvariant R.damage L.KindInvariant f.arguments (after_events (ghost₀ f.arguments.readers (traits.every.first_table f.arguments)) (events (machine (table_by R)) s cs)) (after_all (machine (table_by R)) s cs)
  unfolding kept
  reached s f cs = kept_after (machine (table_by R)) traits.every kept.every f.arguments (ghost₀ f.arguments.readers (traits.every.first_table f.arguments)) s (kept.every.start s f) cs

  pub demand3_of : Demand3 (machine (table_by R)) traits.every.first_table
  demand3_of = grace_demand3 (machine (table_by R)) traits kept

  pub companions_of : GraceCompanions (machine (table_by R)) traits
  companions_of = grace_companions (machine (table_by R)) traits kept

  -- The damage test is false after every list from fresh.
  pub never_damaged_of : (s : State) → Fresh (machine (table_by R)) s → (cs : List Call) → damaged (table_by R) (after_all (machine (table_by R)) s cs) ≡ false
  never_damaged_of s f cs = go (ghost₀ f.arguments.readers f.arguments.table) s (start s f) cs
    where
      go : (g : Ghost) (s' : State) → WholeInvariant R.damage L.KindInvariant f.arguments g s' → (cs : List Call) → damaged (table_by R) (after_all (machine (table_by R)) s' cs) ≡ false
      go g s' i [] = undamaged_now f.arguments g s' i
      go g s' i (c ∷ cs) = go (after_event g (c ⇒ (step (table_by R) s' c).reply)) (step (table_by R) s' c).after (stepped f.arguments g s' i c) cs

  -- A making that fits is accepted, and no other.
  pub making_accepts_of : MakingAccepts (machine (table_by R)) traits.every
  unfolding making
  making_accepts_of z s = rw L.apart_is (λ fit. rw (decide_accepts (making_tests false R.damage.versions z s) (outcome Made (made R.damage.number R.fresh_reader z s)) s
      (fitting_clear false R.damage.versions z s traits.every.greatest (L.greatest_fits z.version) fit)) refl)

  pub making_only_of : MakingOnly (machine (table_by R)) traits.every
  unfolding making
  making_only_of z s = rw L.apart_is (decided (λ (o : Outcome). accepted o.reply ≡ true → MakingFits false traits.every.greatest z s) (making_tests false R.damage.versions z s) (outcome Made (made R.damage.number R.fresh_reader z s)) s refl
      (λ f _. making_fits false R.damage.versions z s traits.every.greatest (L.fits_to_greatest z.version) (making_clear false R.damage.versions z s f))
      (λ ok. clash (sym ok)))

  -- A WALK with no looks that replies spent leaves the whole state as it was.
  pub walk_zero_of : (s : State) (p : ℕ) → (step (table_by R) s (Walk p 0)).reply ≡ Walked Spent → (step (table_by R) s (Walk p 0)).after ≡ s
  unfolding step
  walk_zero_of s p = decided (λ (o : Outcome). o.reply ≡ Walked Spent → o.after ≡ s) (rows (table_by R) s (Walk p 0)) ((table_by R).act s (Walk p 0)) s refl
      (λ f _. rw (L.no_looks s p) (ap (λ (w : List ℕ). state w s.entries) (publisher_back s.words p (publisher_below R.damage s (undamaged_facts (table_by R) s f.0) p (leb-false _ _ f.1.0)))))
      (λ _. refl)
