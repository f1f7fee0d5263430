-- Demand 3 and its companions of the rest store, from its invariant: each step keeps it, every fresh store has it, and what it gives. Assumes nothing.
use Rattle.std.specs.Prelude.{ℕ, ◌+◌, ◌<◌, ◌≤◌, ◌≡◌, refl, ◌≢◌, ◌⊎◌, Bool, not, ◌||◌, List, ℤ, pos, ltb, eqb}
use Rattle.std.proofs.Common.{arith, sym, ap, ◌∙◌, subst, inl, inr, length-set, get_or-set_same, get_or-set_other, eqb-true, eq-eqb, ne_eqb, leb-false, ltb-false, lt-ltb, le-ltb}
use Rattle.std.proofs.Math.Bool.{true, false}
use Rattle.std.proofs.Math.Option.{Option, none, some}
use Rattle.std.proofs.lemmas.Bool.{eqb-false, not-false}
use Rattle.base.specs.Base.{is}
use Rattle.base.specs.Rows.{first_of}
use Rattle.base.specs.RowLaws.{clash, not_both, or_false, or_right, neither, within, none_below, choose_split, AllClear, all_above, all_above_lem, by_test, count_each, count_like}
use Rattle.calls.specs.declared.Call.{Call}
use Rattle.calls.specs.declared.Call.TheVariants.{Enter, Look, Leave, Claim, Write, Swap, Sync, Raise, Walk, Release, Pick, Checkpoint, Defer}
use Rattle.calls.specs.declared.Reply.{Reply}
use Rattle.calls.specs.declared.Reply.TheVariants.{Made, At, Refused}
use Rattle.calls.specs.Numbers.{readers_max, table_length, deferred_max, kind_rest, place_swapped, place_deferring, damaged_number, reader_turn_number, publisher_turn_number, slot_in_use_number, epoch_is_last_number, too_many_deferred_number}
use Rattle.calls.specs.ReplyNumbersLaws.{Representable}
use Rattle.calls.specs.FirstTable.{out_of_range}
use Rattle.calls.specs.Events.{accepted}
use Rattle.calls.specs.Events.Event.{◌⇒◌}
use Rattle.calls.specs.Deferral.{is_marked, deferred_by}
use Rattle.calls.specs.Told.{holds, Has}
use Rattle.calls.specs.Told.Role.{free}
use Rattle.calls.specs.Tally.{Phase}
use Rattle.calls.specs.Tally.Phase.{idle, swapped, synchronising}
use Rattle.layout.specs.declared.Reader.{Reader}
use Rattle.layout.specs.Layout.{readers_at, publishers_at, slots_at, current_at, version_at, releases_at, readers, publishers, slots, current, version, retirement_at, retired_at, blank_reader, no_publisher}
use Rattle.layout.specs.Laws.{fresh_head, fresh_long, fresh_indicator, fresh_reader_lem, fresh_publisher, fresh_retirement, fresh_retired}
use Rattle.statement.specs.Machine.{State, Outcome, outcome, Given, Fresh, events, after_all}
use Rattle.statement.specs.Demand3.{Demand3}
use Rattle.statement.specs.Frame.{next_entry, Writes}
use Rattle.statement.specs.Looks.{WritesInRange, looks_in_range, first_table_until_swap}
use Rattle.statement.specs.Companions.{IsFresh, MakesFresh, MakingFits, MakingAccepts, MakingOnly, Named, InTurn, StateCompanions}
use Rattle.statement.specs.Quiescent.{QuiescentStateCompanions, QuiescentCompanions}
use Rattle.statement.specs.KeptInvariant.{Ghost, ghost₀, after_event, after_events, KeptInvariant, kept_after, all_told, all_tally, returns_never, demand3, companions}
use Rattle.publication_tables.specs.FillLaws.{tables_long, tables_entry}
use Rattle.publication_law.specs.Steps.{reader, publisher, in_use, making_tests, made}
use Rattle.publication_law.specs.Clear.{MakingClear}
use Rattle.publication_law.proofs.Clear.{making_clear, table_is_good, making_fits, fitting_clear, claim_clear}
use Rattle.publication_law.specs.DamageLaws.{publisher_below}
use Rattle.publication_law.specs.Core.{CurrentOrFormer}
use Rattle.publication_law.specs.Core.CurrentOrFormer.{is_current, is_former}
use Rattle.publication_law.specs.Invariant.{formers_of}
use Rattle.publication_law.specs.KindLaw.{undamaged_publisher, place_bounded, early_fits}
use Rattle.publication_law.specs.Table.{damaged, rows, step, making}
use Rattle.publication_law.proofs.Calls.{step_undamaged, undamaged_facts, undamaged_further}
use Rattle.publication_law.specs.Decide.{decided, decide_accepts}
use Rattle.publication_law.proofs.Frames.{same_framed, claim_framed, write_framed, swap_framed}
use Rattle.publication_law.specs.TableLaws.{ActFacts, ActLaws}
use Rattle.publication_law.proofs.TableLaws.{lacked_refused, only_damaged, refused_leaves_of_acts, frame_of_table, representable_of_table, representable_making_of_table}
use Rattle.publication_law.proofs.Keeps.{slots_right, picks_right, table_right, placed, idle_told, unused_told, made_invariant}
use Rattle.publication_law.specs.Served.{SharedCalls}
use Rattle.publication_law.proofs.Served.{named_reader, named_publisher, named_slot, publisher_placed, writer_placed, look_turn, claim_turn, write_turn, swap_turn, look_shelf, claim_not_picked, look_accepted, claims_on, writes_on, swaps_on}
use Rattle.publication_law.specs.Phases.{phase_at}
use Rattle.publication_law.proofs.SharedFacts.{shared_facts_of}
use Rattle.publication_law.specs.Promises.{EveryPromises}
use Rattle.qsbr_law.specs.Steps.{last_version, versions, damage_rules, retirement, load, observe, read, read_last, checkpoint, lacks, tests, act, rules, Qsbr}
use Rattle.qsbr_law.specs.Traits.{traits}
use Rattle.qsbr_law.specs.KindInvariant.{MarkedAs, RetirementFits, RestInvariant}
use Rattle.qsbr_law.proofs.Epochs.{fresh_epochs}
use Rattle.qsbr_law.specs.ToldEpochs.{fresh_told}
use Rattle.qsbr_law.proofs.Safety.{kind_law, retirement_fits, undamaged_now, claim_kept, write_kept, swap_kept, pick_kept, checkpoint_kept, defer_kept}
use Rattle.qsbr_law.proofs.Frames.{pick_framed, checkpoint_framed, defer_framed}

-- What each call's rows and act show of themselves.
numbers_above_1 : (s : State) (c : Call) → all_above damaged_number (tests s c) ≡ true
numbers_above_1 s (Enter r) = refl
numbers_above_1 s (Look r k) = refl
numbers_above_1 s (Leave r) = refl
numbers_above_1 s (Claim p slot) = refl
numbers_above_1 s (Write p v) = refl
numbers_above_1 s (Swap p) = refl
numbers_above_1 s (Sync p) = refl
numbers_above_1 s (Raise p) = refl
numbers_above_1 s (Walk p b) = refl
numbers_above_1 s (Release p) = refl
numbers_above_1 s (Pick r) = refl
numbers_above_1 s (Checkpoint r) = refl
numbers_above_1 s (Defer p) = refl

-- Of a store that is not damaged: as many readers as publishers, and every participant's retirement fits.
pub as_many_of : (s : State) → damaged rules s ≡ false → readers s.words ≡ publishers s.words
as_many_of s e = eqb-true _ _ (not-false _ (or_false (not (eqb (readers s.words) (publishers s.words))) _ (undamaged_further rules s e)).0)

pub fits_of : (s : State) → damaged rules s ≡ false → (p : ℕ) → p < publishers s.words → RetirementFits (readers s.words) (slots s.words) (publisher s p) (retirement_at s.words p) (retired_at s.words p)
fits_of s e p l = retirement_fits s p (none_below _ (publishers s.words) p (or_false (not (eqb (readers s.words) (publishers s.words))) _ (undamaged_further rules s e)).1 l)

-- What holds of each of the four outcomes of a CHECKPOINT holds of it.
each_step : (s : State) (r : ℕ) (Q : Outcome → Type 0) → Q (load s r) → Q (observe s r) → Q (read_last s r) → Q (read s r) → Q (checkpoint s r)
each_step s r Q first second last other = choose_split Q (eqb (retirement s r).step 0) (λ _. first)
    (λ _. choose_split Q (eqb (retirement s r).step 1) (λ _. second) (λ _. choose_split Q (eqb (retirement s r).step (readers s.words + 1)) (λ _. last) (λ _. other)))

-- It replies with the next step.
pub next_step : (s : State) (r : ℕ) → (checkpoint s r).reply ≡ At ((retirement s r).step + 1)
next_step s r = choose_split Replies (eqb (retirement s r).step 0) (λ e. rw (eqb-true (retirement s r).step 0 e) refl)
    (λ _. choose_split Replies (eqb (retirement s r).step 1) (λ e. rw (eqb-true (retirement s r).step 1 e) refl)
    (λ _. choose_split Replies (eqb (retirement s r).step (readers s.words + 1)) (λ _. refl) (λ _. refl)))
  where
    Replies : Outcome → Type 0
    Replies o = o.reply ≡ At ((retirement s r).step + 1)

act_facts : (s : State) (c : Call) → AllClear (rows rules s c) → ActFacts true s c (act s c)
act_facts s (Enter r) f = absurd (clash f.0)
act_facts s (Look r k) f = record { accepts = refl; representable = λ n. n _; framed = same_framed true (Look r k) s.words; entries_stay = λ _. refl }
act_facts s (Leave r) f = absurd (clash f.0)
act_facts s (Claim p slot) f = record { accepts = refl; representable = λ _. tt; framed = claim_framed true damage_rules s (undamaged_facts rules s f.0) false true p slot (claim_clear false true s p slot f.1); entries_stay = λ _. refl }
act_facts s (Write p v) f = record { accepts = refl; representable = λ _. tt; framed = write_framed true damage_rules s (undamaged_facts rules s f.0) p v f.1; entries_stay = λ ne. absurd (ne p v refl) }
act_facts s (Swap p) f = record { accepts = refl; representable = λ _. tt; framed = swap_framed true damage_rules s (undamaged_facts rules s f.0) p f.1; entries_stay = λ _. refl }
act_facts s (Sync p) f = absurd (clash f.0)
act_facts s (Raise p) f = absurd (clash f.0)
act_facts s (Walk p b) f = absurd (clash f.0)
act_facts s (Release p) f = absurd (clash f.0)
act_facts s (Pick r) f =
    let no_damage = undamaged_facts rules s f.0 in
    let lt : r < publishers s.words = omega (arith, leb-false (readers s.words) r f.1.0, as_many_of s f.0) in
    record { accepts = refl; representable = λ _. tt; framed = pick_framed true s r no_damage.head.long (publisher_below damage_rules s no_damage r lt); entries_stay = λ _. refl }
act_facts s (Checkpoint r) f =
    let no_damage = undamaged_facts rules s f.0 in
    let lt : r < publishers s.words = omega (arith, leb-false (readers s.words) r f.1.0, as_many_of s f.0) in record {
      accepts = each_step s r (λ o. accepted o.reply ≡ true) refl refl refl refl;
      representable = λ _. each_step s r (λ o. Representable o.reply) tt tt tt tt;
      framed = checkpoint_framed true s r no_damage.head.long (publisher_below damage_rules s no_damage r lt) (omega (arith, (fits_of s f.0 r lt).count_high));
      entries_stay = λ _. each_step s r (λ o. o.after.entries ≡ s.entries) refl refl refl refl;
    }
act_facts s (Defer p) f =
    let no_damage = undamaged_facts rules s f.0 in
    let lt : p < publishers s.words = leb-false (publishers s.words) p f.1.0 in
    let turn = or_false (not (eqb (publisher s p).place place_swapped || eqb (publisher s p).place place_deferring)) _ f.1.1.0 in record {
      accepts = choose_split (λ (o : Outcome). accepted o.reply ≡ true) (eqb (publisher s p).place place_swapped) (λ _. refl) (λ _. refl);
      representable = λ _. choose_split (λ (o : Outcome). Representable o.reply) (eqb (publisher s p).place place_swapped) (λ _. tt) (λ _. tt);
      framed = defer_framed true s p no_damage.head.long (publisher_below damage_rules s no_damage p lt)
          (λ ne. (fits_of s f.0 p lt).room (eqb-true _ _ (rw (ne_eqb (publisher s p).place 34 ne) at (not-false (eqb (publisher s p).place place_swapped || eqb (publisher s p).place place_deferring) turn.0))));
      entries_stay = λ _. choose_split (λ (o : Outcome). o.after.entries ≡ s.entries) (eqb (publisher s p).place place_swapped) (λ _. refl) (λ _. refl);
    }

-- An accepted WRITE stores the next entry of the slot held, which is one of the entries.
writes_right : (s : State) (p : ℕ) (v : ℤ) → AllClear (rows rules s (Write p v)) → Writes s p v (act s (Write p v))
writes_right s p v f =
    let no_damage = undamaged_facts rules s f.0 in
    let range = within 1 32 (publisher s p).place f.1.1.1.0 in
    let held = (undamaged_publisher kind_law (readers s.words) (slots s.words) (publisher s p) (no_damage.publishers_undamaged p (leb-false _ _ f.1.0))).held_below range.0 in record {
      stored = λ _. get_or-set_same s.entries (next_entry s p) v (pos 0) (omega (arith, no_damage.head.entries_are, range.0, range.1, held));
      others = λ j ne. get_or-set_other s.entries (next_entry s p) j v (pos 0) ne;
      long = length-set s.entries (next_entry s p) v;
    }

act_laws : ActLaws (λ s. true) rules
act_laws = record { numbers_above_1 = λ s c _. numbers_above_1 s c; making_numbers = λ z s. refl; acts = act_facts; writes = writes_right }

pub all_numbers : (s : State) (c : Call) → all_above 0 (rows rules s c) ≡ true
all_numbers s c = all_above_lem damaged_number 0 (omega arith) (tests s c) (numbers_above_1 s c)

-- An accepted call names what the store has.
named_clear : (s : State) (c : Call) → lacks c ≡ false → AllClear (tests s c) → Named (readers s.words) (publishers s.words) (slots s.words) c
named_clear s (Enter r) has f = absurd (clash has)
named_clear s (Look r k) has f = (leb-false _ _ f.0, leb-false table_length k f.1.0)
named_clear s (Leave r) has f = absurd (clash has)
named_clear s (Claim p slot) has f = (leb-false _ _ f.0, leb-false _ _ f.1.0)
named_clear s (Write p v) has f = (leb-false _ _ f.0, f.1.0)
named_clear s (Swap p) has f = leb-false _ _ f.0
named_clear s (Sync p) has f = absurd (clash has)
named_clear s (Raise p) has f = absurd (clash has)
named_clear s (Walk p b) has f = absurd (clash has)
named_clear s (Release p) has f = absurd (clash has)
named_clear s (Pick r) has f = leb-false _ _ f.0
named_clear s (Checkpoint r) has f = leb-false _ _ f.0
named_clear s (Defer p) has f = leb-false _ _ f.0

named_of : (s : State) (c : Call) → accepted (step rules s c).reply ≡ true → Named (readers s.words) (publishers s.words) (slots s.words) c
unfolding step
named_of s c = decided (λ (o : Outcome). accepted o.reply ≡ true → Named (readers s.words) (publishers s.words) (slots s.words) c) (rows rules s c) (act s c) s (all_numbers s c)
    (λ f ok. named_clear s c (or_false (lacks c) (damaged rules s) f.0).0 f.1) (λ ok. clash (sym ok))

-- LOOK, CLAIM, WRITE and SWAP of an undamaged store are the shared ones.
shared_calls_of : (s : State) → damaged rules s ≡ false → SharedCalls false true Qsbr s
shared_calls_of s sound = record {
  looks = λ r k. sym (step_undamaged rules s (Look r k) sound);
  claims = λ p slot. sym (step_undamaged rules s (Claim p slot) sound);
  writes = λ p v. sym (step_undamaged rules s (Write p v) sound);
  swaps = λ p. sym (step_undamaged rules s (Swap p) sound);
}

module _ (z : Given) (g : Ghost) (s : State) (i : RestInvariant z g s) where
  After : Call → Outcome → Type 0
  After c o = RestInvariant z (after_event g (c ⇒ o.reply)) o.after

  -- Each step keeps the invariant.
  act_kept : (c : Call) → AllClear (rows rules s c) → After c (act s c)
  unfolding After
  act_kept (Enter r) f = absurd (clash f.0)
  act_kept (Look r k) f = record { shared = i.shared; as_many = i.as_many; retirements_fit = i.retirements_fit; epochs = i.epochs; told_epochs = i.told_epochs; since = i.since }
  act_kept (Leave r) f = absurd (clash f.0)
  act_kept (Claim p slot) f = claim_kept z g s i p slot (claim_clear false true s p slot f.1)
  act_kept (Write p v) f = write_kept z g s i p v f.1
  act_kept (Swap p) f = swap_kept z g s i p f.1
  act_kept (Sync p) f = absurd (clash f.0)
  act_kept (Raise p) f = absurd (clash f.0)
  act_kept (Walk p b) f = absurd (clash f.0)
  act_kept (Release p) f = absurd (clash f.0)
  act_kept (Pick r) f = pick_kept z g s i r f.1
  act_kept (Checkpoint r) f = rw (act_facts s (Checkpoint r) f).accepts (checkpoint_kept z g s i r f.1)
  act_kept (Defer p) f = rw (act_facts s (Defer p) f).accepts (defer_kept z g s i p f.1)

  pub stepped : (c : Call) → RestInvariant z (after_event g (c ⇒ (step rules s c).reply)) (step rules s c).after
  unfolding After step
  stepped c = decided (After c) (rows rules s c) (act s c) s (all_numbers s c) (act_kept c) i

  accepts : (c : Call) → lacks c ≡ false → AllClear (tests s c) → step rules s c ≡ act s c
  unfolding step
  accepts c has f = decide_accepts (rows rules s c) (act s c) s (neither (lacks c) (damaged rules s) has (undamaged_now z g s i), f)

  shared_calls : SharedCalls false true Qsbr s
  shared_calls = shared_calls_of s (undamaged_now z g s i)

  -- Told and stored: a participant's step, and whether it is at 35 or at 34.
  not_deferring : (p : ℕ) → eqb (publisher s p).place place_deferring ≡ false → g.tally.phase p ≢ synchronising
  not_deferring p e phase = eqb-false _ _ e (placed damage_rules z g s i.shared p synchronising phase)

  at_phase : (p pl : ℕ) (phase : Phase) → eqb (publisher s p).place pl ≡ true → phase_at pl ≡ phase → g.tally.phase p ≡ phase
  at_phase p pl phase e is = i.shared.phases.phases p ∙ (ap phase_at (eqb-true (publisher s p).place pl e) ∙ is)

  deferring_at : (p : ℕ) → g.tally.phase p ≢ synchronising → eqb (publisher s p).place place_deferring ≡ false
  deferring_at p ne = go (eqb (publisher s p).place place_deferring) refl
    where
      go : (b : Bool) → eqb (publisher s p).place place_deferring ≡ b → b ≡ false
      go true e = absurd (ne (at_phase p 35 synchronising e refl))
      go false e = refl

  named_right : (c : Call) → accepted (step rules s c).reply ≡ true → Named z.readers z.publishers z.slots c
  named_right = rw (← i.shared.sized.readers_are, ← i.shared.sized.publishers_are, ← i.shared.sized.slots_are) (named_of s)

  -- An accepted call is in its turn.
  turn_clear : (c : Call) → lacks c ≡ false → AllClear (tests s c) → InTurn traits g.model g.told g.tally c
  turn_clear (Enter r) has f = absurd (clash has)
  turn_clear (Look r k) has f = look_turn damage_rules z g s i.shared r k f
  turn_clear (Leave r) has f = absurd (clash has)
  turn_clear (Claim p slot) has f = claim_turn damage_rules z g s i.shared false p slot f
  turn_clear (Write p v) has f = write_turn damage_rules z g s i.shared p v f
  turn_clear (Swap p) has f = swap_turn damage_rules z g s i.shared p f
  turn_clear (Sync p) has f = absurd (clash has)
  turn_clear (Raise p) has f = absurd (clash has)
  turn_clear (Walk p b) has f = absurd (clash has)
  turn_clear (Release p) has f = absurd (clash has)
  turn_clear (Pick r) has f =
      let turn = or_false (not (eqb (retirement s r).step 0)) _ f.1.0 in
      (i.told_epochs.steps_are r ∙ eqb-true _ _ (not-false _ turn.0), not_deferring r turn.1)
  turn_clear (Checkpoint r) has f = not_deferring r f.1.0
  turn_clear (Defer p) has f =
      let turn = or_false (not (eqb (publisher s p).place place_swapped || eqb (publisher s p).place place_deferring)) (not (eqb (retirement s p).step 0)) f.1.0 in
      (i.told_epochs.steps_are p ∙ eqb-true _ _ (not-false _ turn.1), go (eqb (publisher s p).place place_swapped) refl (not-false (eqb (publisher s p).place place_swapped || eqb (publisher s p).place place_deferring) turn.0))
    where
      go : (b : Bool) → eqb (publisher s p).place place_swapped ≡ b → b || eqb (publisher s p).place place_deferring ≡ true → (g.tally.phase p ≡ swapped) ⊎ (g.tally.phase p ≡ synchronising)
      go true e d = inl (at_phase p 34 swapped e refl)
      go false e d = inr (at_phase p 35 synchronising d refl)

  turn_right : (c : Call) → accepted (step rules s c).reply ≡ true → InTurn traits g.model g.told g.tally c
  unfolding step
  turn_right c = decided (λ (o : Outcome). accepted o.reply ≡ true → InTurn traits g.model g.told g.tally c) (rows rules s c) (act s c) s (all_numbers s c)
      (λ f ok. turn_clear c (or_false (lacks c) (damaged rules s) f.0).0 f.1) (λ ok. clash (sym ok))

  pub state_companions : StateCompanions Qsbr traits z g.model g.told g.tally s
  state_companions = record {
    undamaged = λ c has. only_damaged (λ s. true) rules act_laws s c has (undamaged_now z g s i);
    lacked = λ c lacking. lacked_refused rules s c lacking;
    named = named_right;
    in_turn = turn_right;
    reader_placed = λ r. sym (i.shared.phases.places r);
    publisher_placed = λ p pn. publisher_placed damage_rules z g s i.shared p
        (place_bounded kind_law (readers s.words) (slots s.words) (publisher s p) (i.shared.no_damage.publishers_undamaged p (leb-false _ _ (named_publisher damage_rules z g s i.shared p pn))));
    writer_placed = writer_placed damage_rules z g s i.shared;
    looks = look_accepted damage_rules z g s i.shared false Qsbr shared_calls;
    claims = claims_on damage_rules z g s i.shared false Qsbr shared_calls;
    busy = λ exclusive. absurd (clash (sym exclusive));
    idle_if = idle_told damage_rules z g s i.shared;
    writes = writes_on damage_rules z g s i.shared false Qsbr shared_calls;
    swaps = swaps_on damage_rules z g s i.shared false Qsbr shared_calls;
  }

  -- The tests of the three calls, by what was told.
  inside_told : (r : ℕ) → g.told.deferral.step r ≢ 0 → not (eqb (retirement s r).step 0) ≡ true
  inside_told r ne = rw (ne_eqb (retirement s r).step 0 (λ e. ne (i.told_epochs.steps_are r ∙ e))) refl

  outside_told : (r : ℕ) → g.told.deferral.step r ≡ 0 → not (eqb (retirement s r).step 0) ≡ false
  outside_told r e = rw (eq-eqb (retirement s r).step 0 (sym (i.told_epochs.steps_are r) ∙ e)) refl

  at_35 : (p : ℕ) → g.tally.phase p ≡ synchronising → eqb (publisher s p).place place_deferring ≡ true
  at_35 p e = eq-eqb _ _ (placed damage_rules z g s i.shared p synchronising e)

  at_34 : (p : ℕ) → g.tally.phase p ≡ swapped → eqb (publisher s p).place place_swapped ≡ true
  at_34 p e = eq-eqb _ _ (placed damage_rules z g s i.shared p swapped e)

  -- The number of the first row that applies is the reply's.
  refused_by : (c : Call) (n : ℕ) → lacks c ≡ false → n ≢ 0 → first_of (tests s c) ≡ n → (step rules s c).reply ≡ Refused n
  refused_by c n has ne first = ap (λ (o : Outcome). o.reply) (sym (step_undamaged rules s c (undamaged_now z g s i))) ∙ rw (has, first, ne_eqb n 0 ne) refl

  quiescent : QuiescentStateCompanions Qsbr traits z g.told g.tally s
  quiescent = record {
    picks = λ r rn out apart. (current s.words, i.shared.core.current_is, rw (accepts (Pick r) refl (named_reader damage_rules z g s i.shared r rn, (neither _ _ (outside_told r out) (deferring_at r apart), tt))) refl);
    picks_not_inside = λ r rn inside. refused_by (Pick r) reader_turn_number refl (λ e. omega arith) (rw (named_reader damage_rules z g s i.shared r rn, inside_told r inside) refl);
    picks_not_deferring = λ r rn phase. refused_by (Pick r) reader_turn_number refl (λ e. omega arith) (rw (named_reader damage_rules z g s i.shared r rn, at_35 r phase, or_right (not (eqb (retirement s r).step 0)) true refl) refl);
    checkpoints = λ r rn apart. rw (accepts (Checkpoint r) refl (named_reader damage_rules z g s i.shared r rn, (deferring_at r apart, tt)), i.told_epochs.steps_are r) (next_step s r);
    checkpoints_not_deferring = λ r rn phase. refused_by (Checkpoint r) reader_turn_number refl (λ e. omega arith) (rw (named_reader damage_rules z g s i.shared r rn, at_35 r phase) refl);
    looks_not_before = λ r k rn k32 unpicked. refused_by (Look r k) reader_turn_number refl (λ e. omega arith)
        (rw (named_reader damage_rules z g s i.shared r rn, le-ltb 31 k (omega arith), ne_eqb (reader s r).place 5 (λ e. unpicked (i.shared.phases.places r ∙ e))) refl);
    claims_not_in_use = λ p slot pn xn idle-now used. refused_by (Claim p slot) slot_in_use_number refl (λ e. omega arith)
        (rw (named_publisher damage_rules z g s i.shared p pn, named_slot damage_rules z g s i.shared slot xn, eq-eqb (publisher s p).place 0 (placed damage_rules z g s i.shared p idle idle-now), used_now slot used) refl);
    defers = λ p pn out phase low room. rw (accepts (Defer p) refl (named_publisher damage_rules z g s i.shared p pn, (rw (at_34 p phase, outside_told p out) refl, (rw (at_34 p phase, ne_eqb (version s.words) last_version (λ e. omega arith)) refl, (rw (at_34 p phase, ne_eqb (retirement s p).count deferred_max (λ e. omega (arith, counted p pn))) refl, tt)))), at_34 p phase) refl;
    defers_not_at_last = λ p pn out phase last. refused_by (Defer p) epoch_is_last_number refl (λ e. omega arith) (rw (named_publisher damage_rules z g s i.shared p pn, at_34 p phase, outside_told p out, eq-eqb (version s.words) last_version last) refl);
    defers_not_with_eight = λ p pn out phase low full. refused_by (Defer p) too_many_deferred_number refl (λ e. omega arith) (rw (named_publisher damage_rules z g s i.shared p pn, at_34 p phase, outside_told p out, ne_eqb (version s.words) last_version (λ e. omega arith), eq-eqb (retirement s p).count deferred_max (counted p pn ∙ full)) refl);
    queues = λ p pn out phase.
        let at35 : (publisher s p).place ≡ place_deferring = placed damage_rules z g s i.shared p synchronising phase in
        let not_34 : eqb (publisher s p).place place_swapped ≡ false = ne_eqb (publisher s p).place 34 (λ e. omega arith) in
        rw (accepts (Defer p) refl (named_publisher damage_rules z g s i.shared p pn, (rw (not_34, at_35 p phase, outside_told p out) refl, (rw not_34 refl, (rw not_34 refl, tt)))), not_34) refl;
    defers_not_inside = λ p pn inside. refused_by (Defer p) publisher_turn_number refl (λ e. omega arith) (rw (named_publisher damage_rules z g s i.shared p pn, inside_told p inside, or_right (not (eqb (publisher s p).place place_swapped || eqb (publisher s p).place place_deferring)) true refl) refl);
    defers_not_before = λ p pn not-swapped apart. refused_by (Defer p) publisher_turn_number refl (λ e. omega arith) (rw (named_publisher damage_rules z g s i.shared p pn, not_34 p not-swapped, deferring_at p apart) refl);
    epoch_is = i.told_epochs.epoch_is;
    loaded_is = λ r inside. i.told_epochs.loads_are r (omega (arith, i.told_epochs.steps_are r));
    observed_is = λ r rn. i.told_epochs.observed_are r (leb-false _ _ (named_reader damage_rules z g s i.shared r rn));
    least_is = λ r inside. i.told_epochs.leasts_are r (omega (arith, i.told_epochs.steps_are r));
    mark_is = λ p phase. i.told_epochs.mark_is p (placed damage_rules z g s i.shared p synchronising phase);
    step_is = λ r. sym (i.told_epochs.steps_are r);
    deferred_are = counted;
    marks_are = λ p j l. marked (g.told.deferral.marks p (retired_at s.words p j).slot) (i.told_epochs.marks_are p j l);
    kept_picks = λ r slot picked is_free. unfree slot is_free (i.since r slot picked).1;
  }
    where
      not_34 : (p : ℕ) → g.tally.phase p ≢ swapped → eqb (publisher s p).place place_swapped ≡ false
      not_34 p ne = by_test (eqb (publisher s p).place place_swapped) (λ e. ne (at_phase p 34 swapped e refl))

      used_now : (slot : ℕ) → ¬ Has g.told slot free → in_use true s slot ≡ true
      used_now slot used = go (in_use true s slot) refl
        where
          go : (b : Bool) → in_use true s slot ≡ b → b ≡ true
          go true e = refl
          go false e = absurd (used (unused_told damage_rules z g s i.shared slot e))

      -- No slot is retired twice, and those with a mark told are the retired ones: so there are as many.
      counted : (p : ℕ) → p < z.publishers → (retirement_at s.words p).count ≡ deferred_by g.told.deferral p z.slots
      counted p pn =
          let fits = i.retirements_fit p (leb-false _ _ (named_publisher damage_rules z g s i.shared p pn)) in
          sym (count_each (λ j. (retired_at s.words p j).slot) (retirement_at s.words p).count z.slots (λ j l. omega (arith, fits.slots_below j l, i.shared.sized.slots_are)) (i.epochs.once p))
          ∙ count_like _ (λ slot. is_marked (g.told.deferral.marks p slot)) z.slots (λ slot l. sym (i.told_epochs.queued_are p slot))

      marked : (told : Option ℕ) {mark : ℕ} → MarkedAs z.version told mark → (raise : ℕ) × (told ≡ some raise) × (mark ≡ z.version + raise)
      marked none e = absurd e
      marked (some raise) e = (raise, refl, e)

      -- A slot that is current or someone's former one is not told free.
      unfree : (slot : ℕ) → Has g.told slot free → CurrentOrFormer (current s.words) (λ p. formers_of true s p (publisher s p)) slot → ⊥
      unfree slot is_free (is_current e) = not_both (is g.told.current slot) (rw i.shared.core.current_is (eq-eqb (current s.words) slot (sym e))) is_free.0
      unfree slot is_free (is_former p e) = not_both (holds g.told p slot) (or_right (g.told.claimed p slot) _ ((i.shared.core.publishers p).former_is slot ∙ e)) (is_free.1 p)

-- A fresh store has the invariant, and is document 01's, number by number.
module _ (z : Given) (s : State) (ok : MakingClear true versions z s) where
  made_rest : RestInvariant z (ghost₀ z.readers z.table) (made kind_rest (blank_reader z.version) z s)
  made_rest =
      let head = fresh_head kind_rest z.readers z.publishers z.slots z.version (blank_reader z.version) in
      let publisher-at = fresh_publisher kind_rest z.readers z.publishers z.slots z.version (blank_reader z.version) in
      let retirement-at = fresh_retirement kind_rest z.readers z.publishers z.slots z.version (blank_reader z.version) in
      let reader_at = fresh_reader_lem kind_rest z.readers z.publishers z.slots z.version (blank_reader z.version) in record {
        shared = made_invariant damage_rules true (blank_reader z.version) z s ok refl refl refl (early_fits kind_law z.readers z.slots no_publisher (omega arith) (λ l. absurd (omega arith)));
        as_many = head readers_at (omega arith) ∙ (sym (ok.as_many refl) ∙ sym (head publishers_at (omega arith)));
        retirements_fit = λ p l. rw (publisher-at p, retirement-at p) (record { step_high = omega arith; count_high = omega arith; room = λ e. absurd (omega arith); slots_below = λ j l. absurd (omega arith) });
        epochs = rw (head version_at (omega arith)) (fresh_epochs _ _ _ _ _
            (λ r. rw (reader_at r) (choose_split (λ (x' : Reader). (x'.place ≡ 0) × (x'.published ≤ z.version)) (ltb r readers_max) (λ _. (refl, omega arith)) (λ _. (refl, omega arith))))
            (λ p. rw (publisher-at p) (refl, omega arith)) (λ p. rw (retirement-at p) (refl, refl)));
        told_epochs = rw (head readers_at (omega arith), head version_at (omega arith)) (fresh_told _ _ _ _ _ _
            (λ r l. rw (reader_at r, lt-ltb r readers_max (omega (arith, ok.readers_high))) refl)
            (λ p. rw (publisher-at p) refl) (λ p. rw (retirement-at p) (refl, refl)));
        since = λ r slot e. clash (sym e);
      }

  made_is : IsFresh traits z (made kind_rest (blank_reader z.version) z s)
  made_is =
      let head = fresh_head kind_rest z.readers z.publishers z.slots z.version (blank_reader z.version) in record {
        long = fresh_long kind_rest z.readers z.publishers z.slots z.version (blank_reader z.version);
        readers_given = head readers_at (omega arith);
        publishers_given = head publishers_at (omega arith);
        slots_given = head slots_at (omega arith);
        version_given = head version_at (omega arith);
        current_is = head current_at (omega arith);
        releases_are = head releases_at (omega arith);
        indicators_are = fresh_indicator kind_rest z.readers z.publishers z.slots z.version (blank_reader z.version);
        readers_are = λ r l. fresh_reader_lem kind_rest z.readers z.publishers z.slots z.version (blank_reader z.version) r ∙ rw (lt-ltb r readers_max l) refl;
        publishers_are = fresh_publisher kind_rest z.readers z.publishers z.slots z.version (blank_reader z.version);
        retirements_are = fresh_retirement kind_rest z.readers z.publishers z.slots z.version (blank_reader z.version);
        retired_are = fresh_retired kind_rest z.readers z.publishers z.slots z.version (blank_reader z.version);
        table_good = table_is_good true versions z s ok;
        entries_long = tables_long z.table ok.table_long z.slots;
        entries_are = tables_entry z.table ok.table_long z.slots;
      }

outcome_parts : (o : Outcome) (a : Reply) (s : State) → o ≡ outcome a s → (o.reply ≡ a) × (o.after ≡ s)
outcome_parts o a s e = (ap (λ (o' : Outcome). o'.reply) e, ap (λ (o' : Outcome). o'.after) e)

-- What holds of every store that an accepted making gives.
from_fresh : (Q : Given → State → Type 0) → ((z : Given) (lent : State) → MakingClear true versions z lent → Q z (made kind_rest (blank_reader z.version) z lent)) → (s : State) (f : Fresh Qsbr s) → Q f.arguments s
unfolding making
from_fresh Q each s f = decided (λ (o : Outcome). o ≡ outcome Made s → Q f.arguments s) (making_tests true versions f.arguments f.lent) (outcome Made (made kind_rest (blank_reader f.arguments.version) f.arguments f.lent)) f.lent refl
    (λ ok e. subst (Q f.arguments) (outcome_parts _ _ _ e).1 (each f.arguments f.lent (making_clear true versions f.arguments f.lent ok)))
    (λ e. absurd (let said = (outcome_parts _ _ _ e).0 in let no : ◌≡◌ {A = ℕ} 0 1 = cc in omega arith))
    f.made

pub start_rest : (s : State) (f : Fresh Qsbr s) → RestInvariant f.arguments (ghost₀ f.arguments.readers f.arguments.table) s
start_rest = from_fresh (λ z. RestInvariant z (ghost₀ z.readers z.table)) made_rest

pub kept : KeptInvariant Qsbr traits
kept = record {
  Inv = RestInvariant;
  start = start_rest;
  keep = stepped;
  look = λ z g s i. look_shelf damage_rules z g s i.shared false Qsbr (shared_calls z g s i);
  claim = λ z g s i. claim_not_picked damage_rules z g s i.shared false Qsbr (shared_calls z g s i);
  slots = λ z g s i. slots_right damage_rules z g s i.shared;
  picks = λ z g s i. picks_right damage_rules z g s i.shared;
  table = λ z g s i. table_right damage_rules z g s i.shared;
  state_companions = state_companions;
}

-- What the invariant gives after every list from fresh.
pub reached : (s : State) (f : Fresh Qsbr s) (cs : List Call) → RestInvariant f.arguments (after_events (ghost₀ f.arguments.readers f.arguments.table) (events Qsbr s cs)) (after_all Qsbr s cs)
unfolding kept
reached s f cs = kept_after Qsbr traits kept f.arguments (ghost₀ f.arguments.readers f.arguments.table) s (start_rest s f) cs

no_sync : (s : State) (p : ℕ) → accepted (step rules s (Sync p)).reply ≡ false
no_sync s p = rw (lacked_refused rules s (Sync p) refl) refl

own_demand3 : Demand3 Qsbr (λ z. z.table)
own_demand3 = demand3 Qsbr traits kept (λ s f cs. returns_never Qsbr traits kept s f cs no_sync)

writes_in_range : WritesInRange Qsbr
unfolding step
writes_in_range s p v = decided (λ (o : Outcome). accepted o.reply ≡ true → out_of_range v ≡ false) (rows rules s (Write p v)) (act s (Write p v)) s refl (λ f _. f.1.1.0) (λ ok. clash (sym ok))

making_accepts : MakingAccepts Qsbr traits
unfolding making
making_accepts z s fit = rw (decide_accepts (making_tests true versions z s) (outcome Made (made kind_rest (blank_reader z.version) z s)) s (fitting_clear true versions z s last_version (le-ltb last_version z.version) fit)) refl

making_only : MakingOnly Qsbr traits
unfolding making
making_only z s = decided (λ (o : Outcome). accepted o.reply ≡ true → MakingFits true last_version z s) (making_tests true versions z s) (outcome Made (made kind_rest (blank_reader z.version) z s)) s refl
    (λ f _. making_fits true versions z s last_version (ltb-false last_version z.version) (making_clear true versions z s f))
    (λ ok. clash (sym ok))

makes_fresh : MakesFresh Qsbr traits
makes_fresh = from_fresh (IsFresh traits) made_is

pub rest_promises : EveryPromises rules traits
rest_promises = record {
  demand3 = own_demand3;
  companions = companions Qsbr traits kept;
  looks_in_range = looks_in_range Qsbr writes_in_range own_demand3 traits makes_fresh;
  first_table_until_swap = first_table_until_swap Qsbr own_demand3;
  never_damaged = λ s f cs. undamaged_now f.arguments _ _ (reached s f cs);
  making_accepts = making_accepts;
  making_only = making_only;
  refused_leaves = refused_leaves_of_acts (λ s. true) rules act_laws;
  frame = frame_of_table (λ s. true) rules act_laws;
  makes_fresh = makes_fresh;
  representable = representable_of_table (λ s. true) rules act_laws;
  representable_making = representable_making_of_table (λ s. true) rules act_laws;
  named = named_of;
  shared_facts = shared_facts_of false rules shared_calls_of;
}

-- PICK, CHECKPOINT and DEFER are served after every list from fresh.
pub rest_quiescent : QuiescentCompanions Qsbr traits
rest_quiescent s f cs =
    rw (← all_told (ghost₀ f.arguments.readers f.arguments.table) (events Qsbr s cs), ← all_tally (ghost₀ f.arguments.readers f.arguments.table) (events Qsbr s cs))
    (quiescent f.arguments _ _ (reached s f cs))
