-- What only the rest store can show: each of its calls keeps its invariant. Assumes nothing.
use Prim.Native.Nat.{ℕ, ◌+◌, ◌<◌, ◌≤◌}
use Rattle.std.proofs.Common.{arith, sym, ◌∙◌, inl, inr}
use Rattle.std.proofs.Math.Path.{◌≡◌, refl, ap, fun_ext}
use Rattle.std.specs.Prelude.{◌≢◌, ◌⊎◌, Bool, not, ◌&&◌, ◌||◌, List, ℤ, leb}
use Rattle.std.proofs.Math.Bool.{true, false}
use Rattle.std.proofs.Math.Option.{Option, none, some}
use Rattle.std.proofs.Math.Dec.{ltb, eqb}
use borrow.Author.Tests.{eqb-true, eqb-false, eq-eqb, ne_eqb, leb-true, leb-false, le-leb, lt-leb, ltb-false, le-ltb, lt-ltb, not-false}
use Rattle.base.specs.Base.{choose, upd, is}
use Rattle.base.specs.Rows.{any_true, any_below, count_below}
use Rattle.base.specs.RowLaws.{clash, not_both, by_test, and_true, and_false, and_not, or_false, or_left, or_right, or_either, or_none, neither, negated, within, all_false, none_true, none_below, no_below, some_below, any_below_lem, any_more, choose_split, same, at_or, AllClear}
use Rattle.calls.specs.declared.Call.TheVariants.{Claim, Write, Swap, Pick, Checkpoint, Defer}
use Rattle.calls.specs.declared.Reply.TheVariants.{At, Claimed, Written, Swapped, Picked}
use Rattle.calls.specs.Numbers.{publishers_max, deferred_max, place_out, place_picked, place_idle, place_claimed, place_written, place_swapped, place_deferring}
use Rattle.calls.specs.Deferral.{is_last_step, least_after, reached, freed_by, after_step, after_raise, is_marked}
use Rattle.calls.specs.Tally.Phase.{idle, synchronising}
use Rattle.layout.specs.declared.Reader.{Reader}
use Rattle.layout.specs.declared.Publisher.{Publisher}
use Rattle.layout.specs.declared.Retirement.{Retirement}
use Rattle.layout.specs.declared.Retired.{Retired}
use Rattle.layout.specs.Layout.{readers_at, publishers_at, slots_at, current_at, readers, publishers, slots, current, version, reader_at, publisher_at, retirement_at, retired_at, with_reader, slot_entry}
use Rattle.layout.specs.Laws.{length_reader, retired_reader}
use Rattle.layout.specs.Records.{◌place≔◌, ◌first≔◌, ◌second≔◌, ◌published≔◌, ◌picked≔◌, ◌at_place◌, ◌held≔◌, ◌walk≔◌, ◌mark≔◌, ◌step≔◌, ◌count≔◌}
use Rattle.statement.specs.Machine.{State, state, Outcome, Given, retired_slot}
use Rattle.statement.specs.KeptInvariant.{Ghost, ghost_step}
use Rattle.publication_law.specs.Steps.{reader, publisher, claim, write_tests, write, swap_tests, swap}
use Rattle.publication_law.specs.Clear.{ClaimClear}
use Rattle.publication_law.specs.DamageLaws.{Undamaged, undamaged_to, publisher_below}
use Rattle.publication_law.specs.Damage.{shared_damage}
use Rattle.publication_law.specs.KindLaw.{KindLaw, up_to_law, undamaged_publisher, publisher_undamaged, early_fits}
use Rattle.publication_law.specs.Core.{CurrentOrFormer, Core}
use Rattle.publication_law.specs.Core.Hold.{by_swap}
use Rattle.publication_law.specs.Core.CurrentOrFormer.{is_current, is_former}
use Rattle.publication_law.specs.CoreLaws.{pick_core, drop_core, told_core, late_core, shrink_core}
use Rattle.publication_law.specs.Single.{former_early, formers_same}
use Rattle.publication_law.specs.Phases.{Phases}
use Rattle.publication_law.specs.PhaseLaws.{place_phases, move_phases}
use Rattle.publication_law.specs.Moves.{MovesPublisher, publisher_moves, publisher_moves_head, upd_same, upd_field}
use Rattle.publication_law.specs.Invariant.{formers, formers_of, Invariant}
use Rattle.publication_law.specs.InvariantLaws.{formers_kept, head_undamaged, sized}
use Rattle.publication_law.proofs.Keeps.{claim_keeps, write_keeps, swap_keeps}
use Rattle.publication_law.specs.Table.{damaged}
use Rattle.qsbr_law.specs.Steps.{last_version, reader_rows, damage_rules, retirement_rows, further, pick_tests, pick, checkpoint_tests, step_to, load, observe, least_read, read, after_freeing, read_last, checkpoint, defer_tests, raise_epoch, queue, defer, rules}
use Rattle.qsbr_law.proofs.Freeing.{any_stays, count_stays, frees}
use Rattle.qsbr_law.specs.KindInvariant.{Epochs, ToldEpochs, RetirementFits, Since, RestInvariant}
use Rattle.qsbr_law.proofs.Epochs.{pick_epochs, load_epochs, observe_epochs, least_low, read_epochs, last_epochs, raise_epochs, queue_epochs, early_epochs}
use Rattle.qsbr_law.specs.ToldEpochs.{below_same, pick_told, step_told, least_told, last_told, raise_told, queue_told, early_told}
use Rattle.qsbr_law.specs.Moves.{Moves}
use Rattle.qsbr_law.proofs.Moves.{reader_moves, and_publisher, and_version, and_retirement, and_retired, and_freed}

-- What the shared steps and the shared code need of the kind.
pub kind_law : KindLaw damage_rules
kind_law = record {
  versions_law = up_to_law last_version;
  reader_picked = λ rs ss x e d. leb-false ss x.picked (and_false (eqb x.place place_picked) (leb ss x.picked) (all_false (reader_rows ss x) d).1.0 (eq-eqb x.place 5 e));
  extra_damage = λ rs y. ltb place_deferring y.place;
  extra_rows_lem = λ rs ss y. refl;
  extra_early = λ rs y l. le-ltb 35 y.place (omega arith);
  extra_beyond = λ rs y e. let l = ltb-false 35 y.place e in omega arith;
}

-- A retirement that fits, to and from its rows.
pub retirement_fits : (s : State) (p : ℕ) → any_true (retirement_rows s p) ≡ false → RetirementFits (readers s.words) (slots s.words) (publisher s p) (retirement_at s.words p) (retired_at s.words p)
retirement_fits s p e =
    let f = all_false (retirement_rows s p) e in
    let high = ltb-false deferred_max (retirement_at s.words p).count f.1.0 in record {
      step_high = ltb-false _ _ f.0;
      count_high = high;
      room = λ at35. let ne = eqb-false (retirement_at s.words p).count deferred_max (and_false _ _ f.1.1.0 (eq-eqb _ _ at35)) in omega arith;
      slots_below = λ i l. leb-false _ _ (none_below (λ i. leb (slots s.words) (retired_at s.words p i).slot) _ i f.1.1.1.0 l);
    }

retirement_rows_lem : (s : State) (p : ℕ) → RetirementFits (readers s.words) (slots s.words) (publisher s p) (retirement_at s.words p) (retired_at s.words p) → any_true (retirement_rows s p) ≡ false
retirement_rows_lem s p f = none_true (retirement_rows s p) (
  le-ltb _ _ f.step_high,
  (
    le-ltb _ _ f.count_high,
    (
      and_not (eqb (publisher s p).place place_deferring) _ (λ e. let room = f.room (eqb-true (publisher s p).place 35 e) in ne_eqb (retirement_at s.words p).count deferred_max (λ eq. omega arith)),
      (no_below (λ i. leb (slots s.words) (retired_at s.words p i).slot) _ (λ i l. lt-leb _ _ (f.slots_below i l)), tt),
    ),
  ),
)

module _ (z : Given) (g : Ghost) (s : State) (i : RestInvariant z g s) where
  no_damage : Undamaged damage_rules s
  no_damage = i.shared.no_damage

  pub no_further : further s ≡ false
  no_further = neither (not (eqb (readers s.words) (publishers s.words))) _ (negated _ (eq-eqb _ _ i.as_many)) (no_below (λ p. any_true (retirement_rows s p)) (publishers s.words) (λ p l. retirement_rows_lem s p (i.retirements_fit p l)))

  pub undamaged_now : damaged rules s ≡ false
  unfolding damaged
  undamaged_now = neither (shared_damage damage_rules s) (further s) (undamaged_to damage_rules s no_damage) no_further

  -- The former slots of a participant, as stored.
  F : ℕ → ℕ → Bool
  F p = formers_of true s p (publisher s p)

  low_of : (p : ℕ) → p < publishers s.words → p < publishers_max
  low_of p l = publisher_below damage_rules s no_damage p l

  -- A participant moves: the invariant of the new words, from what holds of slots, phases, retirement and epochs then.
  module _ (g' : Ghost) (w' : List ℕ) (p : ℕ) (x : Reader) (y : Publisher) (t : Retirement) (d : ℕ → Retired) (ver : ℕ) (m : Moves s.words w' p x y t d ver) where
    own : ℕ → Bool
    own slot = any_below (λ j. eqb (d j).slot slot) t.count || formers y slot

    formers_moved : ◌≡◌ {A = ℕ → ℕ → Bool} (λ q. formers_of true (state w' s.entries) q (publisher_at w' q)) (upd F p own)
    unfolding F own
    formers_moved =
        ap {B = ℕ → ℕ → Bool} (λ (f : ℕ → Publisher) (q slot : ℕ). any_below (λ j. eqb (retired_at w' q j).slot slot) (retirement_at w' q).count || formers (f q) slot) m.publishers_are
        ∙ (ap {B = ℕ → ℕ → Bool} (λ (f : ℕ → Retirement) (q slot : ℕ). any_below (λ j. eqb (retired_at w' q j).slot slot) (f q).count || formers (upd (publisher_at s.words) p y q) slot) m.retirements_are
        ∙ (ap {B = ℕ → ℕ → Bool} (λ (f : ℕ → ℕ → Retired) (q slot : ℕ). any_below (λ j. eqb (f q j).slot slot) (upd (retirement_at s.words) p t q).count || formers (upd (publisher_at s.words) p y q) slot) m.retired_are
        ∙ fun_ext (λ q. at_q q (eqb q p))))
      where
        at_q : (q : ℕ) (b : Bool) → ◌≡◌ {A = ℕ → Bool} (λ slot. any_below (λ j. eqb (choose b d (retired_at s.words q) j).slot slot) (choose b t (retirement_at s.words q)).count || formers (choose b y (publisher_at s.words q)) slot)
            (choose b (λ slot. any_below (λ j. eqb (d j).slot slot) t.count || formers y slot) (formers_of true s q (publisher s q)))
        at_q q true = refl
        at_q q false = refl

    moved_rest : ver ≤ last_version → damage_rules.reader_damaged (readers s.words) (slots s.words) x ≡ false → damage_rules.publisher_damaged (readers s.words) (slots s.words) y ≡ false
        → Core g'.model g'.told (readers s.words) (publishers s.words) (current s.words) (upd (λ j. (reader s j).place) p x.place) (upd (λ j. (reader s j).picked) p x.picked)
        (upd (λ q. (publisher s q).place) p y.place) (upd (λ q. (publisher s q).held) p y.held) (upd F p own) (slot_entry s.entries)
        → Phases g'.tally.place g'.tally.phase (upd (λ j. (reader s j).place) p x.place) (upd (λ q. (publisher s q).place) p y.place)
        → RetirementFits (readers s.words) (slots s.words) y t d
        → Epochs ver g'.told.deferral.picks (upd (reader_at s.words) p x) (upd (publisher_at s.words) p y) (upd (retirement_at s.words) p t) (upd (retired_at s.words) p d)
        → ToldEpochs z.version (readers s.words) g'.told.deferral ver (upd (reader_at s.words) p x) (upd (publisher_at s.words) p y) (upd (retirement_at s.words) p t) (upd (retired_at s.words) p d)
        → Since g'.told.deferral.picks (readers s.words) (current s.words) (upd F p own)
        → RestInvariant z g' (state w' s.entries)
    moved_rest fits reader-ok publisher-ok core_is phases-is retirement-ok epochs-are told-are since-is = record {
      shared = record {
        no_damage = record {
          head = head_undamaged damage_rules s w' s.entries m.long (λ j l. m.head j (omega arith) (λ eq. omega arith)) refl (rw (m.head current_at (omega arith) (λ eq. omega arith)) no_damage.head.current_below) (rw m.version_is (le-ltb last_version ver fits)) no_damage.head;
          readers_undamaged = rw (n_same, slots_same, m.readers_are) (at_or p (λ l. rw (same p) reader-ok) (λ j e l. rw e (no_damage.readers_undamaged j l)));
          publishers_undamaged = rw (m_same, slots_same, m.publishers_are) (at_or p (λ l. rw (same p) publisher-ok) (λ q e l. rw e (no_damage.publishers_undamaged q l)));
        };
        sized = sized damage_rules s w' s.entries m.long (λ j l. m.head j (omega arith) (λ eq. omega arith)) z i.shared.sized;
        core = rw (
          n_same,
          m_same,
          m.head current_at (omega arith) (λ eq. omega arith),
          formers_moved,
          upd_field (λ (x' : Reader). x'.place) (reader_at w') (reader_at s.words) p x m.readers_are,
          upd_field (λ (x' : Reader). x'.picked) (reader_at w') (reader_at s.words) p x m.readers_are,
          upd_field (λ (y' : Publisher). y'.place) (publisher_at w') (publisher_at s.words) p y m.publishers_are,
          upd_field (λ (y' : Publisher). y'.held) (publisher_at w') (publisher_at s.words) p y m.publishers_are,
        ) core_is;
        phases = rw (
          upd_field (λ (x' : Reader). x'.place) (reader_at w') (reader_at s.words) p x m.readers_are,
          upd_field (λ (y' : Publisher). y'.place) (publisher_at w') (publisher_at s.words) p y m.publishers_are,
        ) phases-is;
      };
      as_many = n_same ∙ (i.as_many ∙ sym m_same);
      retirements_fit = rw (n_same, m_same, slots_same, m.publishers_are, m.retirements_are, m.retired_are) (at_or p (λ l. rw (same p) retirement-ok) (λ q e l. rw e (i.retirements_fit q l)));
      epochs = rw (m.version_is, m.readers_are, m.publishers_are, m.retirements_are, m.retired_are) epochs-are;
      since = rw (n_same, m.head current_at (omega arith) (λ eq. omega arith), formers_moved) since-is;
      told_epochs = rw (n_same, m.version_is, m.readers_are, m.publishers_are, m.retirements_are, m.retired_are) told-are;
    }
      where
        n_same : readers w' ≡ readers s.words
        n_same = m.head readers_at (omega arith) (λ eq. omega arith)

        m_same : publishers w' ≡ publishers s.words
        m_same = m.head publishers_at (omega arith) (λ eq. omega arith)

        slots_same : slots w' ≡ slots s.words
        slots_same = m.head slots_at (omega arith) (λ eq. omega arith)

  -- CLAIM, WRITE and SWAP: a publisher below 35.
  early_rest : (g' : Ghost) (w' : List ℕ) (es' : List ℤ) (p : ℕ) (y : Publisher) (cur rel : ℕ) → MovesPublisher s.words w' p y cur (version s.words) rel → Invariant damage_rules z g' (state w' es')
      → g'.told.deferral ≡ g.told.deferral → y.place ≤ place_swapped → y.walk ≡ (publisher s p).walk
      → (place_swapped ≤ y.place → any_below (λ j. eqb (retired_at s.words p j).slot y.held) (retirement_at s.words p).count ≡ false)
      → ((slot : ℕ) → formers (publisher s p) slot ≡ true → formers y slot ≡ true) → ((slot : ℕ) → slot ≡ current s.words → (slot ≡ cur) ⊎ (formers y slot ≡ true)) → RestInvariant z g' (state w' es')
  early_rest g' w' es' p y cur rel m shared-now same-told-of low same-walk unretired formers_stay current-so = record {
    shared = shared-now;
    as_many = m.head readers_at (omega arith) ∙ (i.as_many ∙ sym (m.head publishers_at (omega arith)));
    retirements_fit = rw (m.head readers_at (omega arith), m.head publishers_at (omega arith), m.head slots_at (omega arith), m.publishers_are, m.retirements_stay, m.retired_stay)
        (at_or p (λ l. rw (same p) (let f = i.retirements_fit p l in record { step_high = f.step_high; count_high = f.count_high; room = λ e. absurd (omega arith); slots_below = f.slots_below })) (λ q e l. rw e (i.retirements_fit q l)));
    epochs = rw (same-told-of, m.version_is, m.readers_stay, m.publishers_are, m.retirements_stay, m.retired_stay) (early_epochs _ _ _ _ _ _ i.epochs p y low unretired (rw same-walk (i.epochs.waits_low p)));
    told_epochs = rw (m.head readers_at (omega arith), same-told-of, m.version_is, m.readers_stay, m.publishers_are, m.retirements_stay, m.retired_stay) (early_told _ _ _ _ _ _ _ _ i.told_epochs p y low);
    since = rw (same-told-of, m.head readers_at (omega arith), m.current_is, formers_now) since_now;
  }
    where
      -- The former slots are those of before, but for what p moves.
      F' : ℕ → ℕ → Bool
      F' q = formers_of true s q (upd (publisher_at s.words) p y q)

      formers_now : ◌≡◌ {A = ℕ → ℕ → Bool} (λ q. formers_of true (state w' es') q (publisher_at w' q)) F'
      formers_now = ap {B = ℕ → ℕ → Bool} (λ (f : ℕ → Publisher → ℕ → Bool) (q : ℕ). f q (publisher_at w' q)) (formers_kept true s w' es' m.retirements_stay m.retired_stay)
          ∙ ap {B = ℕ → ℕ → Bool} (λ (f : ℕ → Publisher) (q : ℕ). formers_of true s q (f q)) m.publishers_are

      still_former : (q slot : ℕ) → formers_of true s q (publisher s q) slot ≡ true → F' q slot ≡ true
      still_former q slot = at_or p {Q = λ q. formers_of true s q (publisher s q) slot ≡ true → F' q slot ≡ true}
          (rw (same p) (λ there. either_stays (or_either (retired_slot s p slot) (formers (publisher s p) slot) there))) (λ j e. rw e (λ there. there)) q
        where
          either_stays : (retired_slot s p slot ≡ true) ⊎ (formers (publisher s p) slot ≡ true) → retired_slot s p slot || formers y slot ≡ true
          either_stays (inl e) = or_left (retired_slot s p slot) _ e
          either_stays (inr e) = or_right (retired_slot s p slot) _ (formers_stay slot e)

      since_now : Since g.told.deferral.picks (readers s.words) cur F'
      since_now r slot there = let was = i.since r slot there in (was.0, go was.1)
        where
          from_current : (slot ≡ cur) ⊎ (formers y slot ≡ true) → CurrentOrFormer cur F' slot
          from_current (inl e) = is_current e
          from_current (inr e) = is_former p (rw (same p) (or_right (retired_slot s p slot) _ e))

          go : CurrentOrFormer (current s.words) (λ q. formers_of true s q (publisher_at s.words q)) slot → CurrentOrFormer cur F' slot
          go (is_current e) = from_current (current-so slot e)
          go (is_former q e) = is_former q (still_former q slot e)

  held_below : (p : ℕ) → p < publishers s.words → place_claimed ≤ (publisher s p).place → (publisher s p).held < slots s.words
  held_below p lt = (undamaged_publisher kind_law (readers s.words) (slots s.words) (publisher s p) (no_damage.publishers_undamaged p lt)).held_below

  pub claim_kept : (p slot : ℕ) → ClaimClear false true s p slot → RestInvariant z (ghost_step g (Claim p slot) (Claimed slot)) (claim s p slot).after
  claim_kept p slot ok =
      let y : Publisher = publisher s p at_place place_claimed held≔ slot in
      early_rest _ _ _ p y _ _ (publisher_moves no_damage p y ok.publisher_named_lem)
      (claim_keeps damage_rules z g s i.shared false p slot ok (early_fits kind_law (readers s.words) (slots s.words) y (omega arith) (λ _. ok.slot_named))) refl (omega arith) refl (λ l. absurd (omega arith)) (λ slot' e. absurd (not_both _ e (former_early (publisher s p).place (publisher s p).held slot' (omega (arith, ok.in_turn))))) (λ slot' e. inl e)

  pub write_kept : (p : ℕ) (v : ℤ) → AllClear (write_tests s p v) → RestInvariant z (ghost_step g (Write p v) (Written (publisher s p).place)) (write s p v).after
  write_kept p v f =
      let lt : p < publishers s.words = leb-false _ _ f.0 in
      let range = within 1 32 (publisher s p).place f.1.1.0 in
      let high : (publisher s p).place ≤ 32 = range.1 in
      let y : Publisher = publisher s p at_place ((publisher s p).place + 1) in
      let below = held_below p lt range.0 in
      early_rest _ _ _ p y _ _ (publisher_moves no_damage p y lt)
      (write_keeps damage_rules z g s i.shared p v f below (early_fits kind_law (readers s.words) (slots s.words) y (omega arith) (λ _. below))) refl (omega arith) refl (λ l. absurd (omega arith)) (λ slot' e. absurd (not_both _ e (former_early (publisher s p).place (publisher s p).held slot' (omega arith)))) (λ slot' e. inl e)

  -- The current slot is none of anyone's retired ones, and nobody from 34 on holds it.
  current_unretired : (p : ℕ) → retired_slot s p (current s.words) ≡ false
  current_unretired p = by_test _ (λ e. (i.shared.core.publishers p).apart (current s.words) (by_swap (or_left (retired_slot s p (current s.words)) _ e)) refl)

  current_unheld : (p : ℕ) → place_swapped ≤ (publisher s p).place → (publisher s p).held ≢ current s.words
  current_unheld p l e = (i.shared.core.publishers p).apart (current s.words) (by_swap (or_right (retired_slot s p (current s.words)) _ (rw (le-leb 34 (publisher s p).place l, eq-eqb (publisher s p).held (current s.words) e) refl))) refl

  pub swap_kept : (p : ℕ) → AllClear (swap_tests s p) → RestInvariant z (ghost_step g (Swap p) (Swapped (current s.words))) (swap s p).after
  swap_kept p f =
      let lt : p < publishers s.words = leb-false _ _ f.0 in
      let at33 : (publisher s p).place ≡ place_written = eqb-true _ _ (not-false _ f.1.0) in
      let y : Publisher = publisher s p at_place place_swapped held≔ current s.words in
      early_rest _ _ _ p y _ _ (publisher_moves_head no_damage p y lt current_at (publisher s p).held (omega arith) (omega arith))
      (swap_keeps damage_rules z g s i.shared p f (held_below p lt (omega arith)) (early_fits kind_law (readers s.words) (slots s.words) y (omega arith) (λ _. no_damage.head.current_below))) refl (omega arith) refl (λ _. current_unretired p) (λ slot' e. absurd (not_both _ e (former_early (publisher s p).place (publisher s p).held slot' (omega arith)))) (λ slot' e. inr (eq-eqb (current s.words) slot' (sym e)))

  version_low : version s.words ≤ last_version
  version_low = ltb-false last_version (version s.words) no_damage.head.version_fits

  -- PICK.
  pub pick_kept : (r : ℕ) → AllClear (pick_tests s r) → RestInvariant z (ghost_step g (Pick r) (Picked (current s.words))) (pick s r).after
  unfolding F own
  pick_kept r f =
      let named : r < readers s.words = leb-false _ _ f.0 in
      let lt : r < publishers s.words = omega (arith, i.as_many) in
      let turn = or_false (not (eqb (retirement_at s.words r).step 0)) _ f.1.0 in
      let out : (retirement_at s.words r).step ≡ 0 = eqb-true _ _ (not-false _ turn.0) in
      let apart : (publisher s r).place ≢ place_deferring = eqb-false _ _ turn.1 in
      let x : Reader = reader s r place≔ place_picked picked≔ current s.words in
      moved_rest _ _ r x _ _ _ _ (reader_moves s.words r no_damage.head.long (low_of r lt) x) version_low
      (rw (lt-leb (slots s.words) (current s.words) no_damage.head.current_below) refl) (no_damage.publishers_undamaged r lt)
      (rw (upd_same (λ q. (publisher s q).place) r, upd_same (λ q. (publisher s q).held) r, upd_same F r) (pick_core _ _ _ _ _ _ _ _ _ _ _ i.shared.core r named))
      (rw (upd_same (λ q. (publisher s q).place) r) (place_phases _ _ _ _ i.shared.phases r 5))
      (i.retirements_fit r lt)
      (rw (i.shared.core.current_is, upd_same (publisher_at s.words) r, upd_same (retired_at s.words) r) (pick_epochs _ _ _ _ _ _ i.epochs r (current s.words) out apart
      (λ p j l e. eqb-false _ _ (none_below (λ j. eqb (retired_at s.words p j).slot (current s.words)) _ j (current_unretired p) l) e) (λ p e. current_unheld p (omega arith))))
      (rw (upd_same (publisher_at s.words) r, upd_same (retired_at s.words) r) (pick_told _ _ _ _ _ _ _ _ i.told_epochs r x g.told.current refl refl refl))
      (rw (upd_same F r) (at_or r (λ slot. rw (same r) (λ there. picked_now slot (or_either (is g.told.current slot) (g.told.deferral.picks r slot) there))) (λ j e slot. rw e (i.since j slot))))
    where
      picked_now : (slot : ℕ) → (is g.told.current slot ≡ true) ⊎ (g.told.deferral.picks r slot ≡ true) → (r < readers s.words) × CurrentOrFormer (current s.words) F slot
      picked_now slot (inl e) = (leb-false _ _ f.0, is_current (sym (eqb-true (current s.words) slot (rw i.shared.core.current_is at e))))
      picked_now slot (inr e) = i.since r slot e

  -- CHECKPOINT: what is told of former slots where the step is not the last.
  unfreed : (r k : ℕ) → is_last_step g.told.deferral k ≡ false → (q slot : ℕ) → upd g.told.former r (λ slot. not (freed_by g.told.deferral r k slot) && g.told.former r slot) q slot ≡ upd F r (F r) q slot
  unfolding F
  unfreed r k not_last = at_or r (λ slot. rw (same r, not_last) ((i.shared.core.publishers r).former_is slot)) (λ q e slot. rw e ((i.shared.core.publishers q).former_is slot))

  module _ (r : ℕ) (f : AllClear (checkpoint_tests s r)) where
    named : r < readers s.words
    named = leb-false _ _ f.0

    lt_r : r < publishers s.words
    lt_r = omega (arith, i.as_many, named)

    apart : (publisher s r).place ≢ place_deferring
    apart = eqb-false _ _ f.1.0

    fits_r : RetirementFits (readers s.words) (slots s.words) (publisher s r) (retirement_at s.words r) (retired_at s.words r)
    fits_r = i.retirements_fit r lt_r

    participants : g.told.deferral.participants ≡ readers s.words
    participants = i.told_epochs.participants_are

    step_fits : (k : ℕ) → k ≤ readers s.words + 1 → RetirementFits (readers s.words) (slots s.words) (publisher s r) (retirement_at s.words r step≔ k) (retired_at s.words r)
    step_fits k l = record { step_high = l; count_high = fits_r.count_high; room = fits_r.room; slots_below = fits_r.slots_below }

    step_moves : (k : ℕ) (x : Reader) → Moves s.words (step_to s r k x) r x (publisher s r) (retirement_at s.words r step≔ k) (retired_at s.words r) (version s.words)
    step_moves k x = and_retirement s.words r no_damage.head.long (low_of r lt_r) _ x _ _ _ _ (reader_moves s.words r no_damage.head.long (low_of r lt_r) x) (retirement_at s.words r step≔ k)

    -- Step 1.
    load_kept : (retirement_at s.words r).step ≡ 0 → RestInvariant z (ghost_step g (Checkpoint r) (At 1)) (load s r).after
    unfolding F own
    load_kept out =
        let not_last : is_last_step g.told.deferral 1 ≡ false = ne_eqb 1 (g.told.deferral.participants + 2) (λ eq. omega arith) in
        let x : Reader = reader s r place≔ place_out first≔ version s.words in
        moved_rest _ _ r x _ _ _ _ (step_moves 1 x) version_low refl (no_damage.publishers_undamaged r lt_r)
        (rw (upd_same (λ q. (publisher s q).place) r, upd_same (λ q. (publisher s q).held) r)
        (shrink_core _ _ _ _ _ _ _ _ _ _ _ (drop_core _ _ _ _ _ _ _ _ _ _ _ i.shared.core r (reader s r).picked g.told.deferral) r (F r) _ _ (λ slot e. e) (λ j five e. e) (unfreed r 1 not_last)))
        (rw (upd_same (λ q. (publisher s q).place) r) (place_phases _ _ _ _ i.shared.phases r 0))
        (step_fits 1 (omega arith))
        (rw (upd_same (publisher_at s.words) r, upd_same (retired_at s.words) r) (load_epochs _ _ _ _ _ _ i.epochs r apart))
        (rw (upd_same (publisher_at s.words) r, upd_same (retired_at s.words) r) (step_told _ _ _ _ _ _ _ _ i.told_epochs r 1 x not_last i.told_epochs.epoch_is (i.told_epochs.observed_are r) (λ l. absurd (omega arith))))
        (rw (upd_same F r) (at_or r (λ slot. rw (same r) (λ there. clash (sym there))) (λ j e slot. rw e (i.since j slot))))

    -- A step after which place and pick are as they were.
    stay_core : (k : ℕ) → is_last_step g.told.deferral k ≡ false → eqb k 1 ≡ false
        → Core g.model (ghost_step g (Checkpoint r) (At k)).told (readers s.words) (publishers s.words) (current s.words) (upd (λ j. (reader s j).place) r (reader s r).place) (upd (λ j. (reader s j).picked) r (reader s r).picked)
        (upd (λ q. (publisher s q).place) r (publisher s r).place) (upd (λ q. (publisher s q).held) r (publisher s r).held) (upd F r (F r)) (slot_entry s.entries)
    unfolding F
    stay_core k not_last later = rw (later, upd_same (λ j. (reader s j).place) r, upd_same (λ j. (reader s j).picked) r, upd_same (λ q. (publisher s q).place) r, upd_same (λ q. (publisher s q).held) r)
        (shrink_core _ _ _ _ _ _ _ _ _ _ _ i.shared.core r (F r) _ _ (λ slot e. e) (λ j five e. e) (unfreed r k not_last))

    stay_phases : (k : ℕ) → eqb k 1 ≡ false → Phases (ghost_step g (Checkpoint r) (At k)).tally.place (ghost_step g (Checkpoint r) (At k)).tally.phase (upd (λ j. (reader s j).place) r (reader s r).place) (upd (λ q. (publisher s q).place) r (publisher s r).place)
    stay_phases k later = rw (later, upd_same (λ j. (reader s j).place) r, upd_same (λ q. (publisher s q).place) r) i.shared.phases

    -- Step 2.
    observe_kept : (retirement_at s.words r).step ≡ 1 → RestInvariant z (ghost_step g (Checkpoint r) (At 2)) (observe s r).after
    unfolding F own
    observe_kept one =
        let n-low : 1 ≤ readers s.words = no_damage.head.readers_low in
        let not_last : is_last_step g.told.deferral 2 ≡ false = ne_eqb 2 (g.told.deferral.participants + 2) (λ eq. omega (arith, participants)) in
        let x : Reader = reader s r published≔ (reader s r).first in
        let loaded = i.told_epochs.loads_are r (omega arith) in
        moved_rest _ _ r x _ _ _ _ (step_moves 2 x) version_low (no_damage.readers_undamaged r named) (no_damage.publishers_undamaged r lt_r)
        (stay_core 2 not_last refl) (stay_phases 2 refl) (step_fits 2 (omega arith))
        (rw (upd_same (publisher_at s.words) r, upd_same (retired_at s.words) r) (rw (upd_same g.told.deferral.picks r) at (observe_epochs _ _ _ _ _ _ i.epochs r apart one)))
        (rw (upd_same (publisher_at s.words) r, upd_same (retired_at s.words) r) (step_told _ _ _ _ _ _ _ _ i.told_epochs r 2 x not_last loaded (λ _. loaded) (λ l. absurd (omega arith))))
        (rw (upd_same F r) i.since)

    -- Step k from 3 on, but not the last.
    read_kept : 2 ≤ (retirement_at s.words r).step → (retirement_at s.words r).step ≢ readers s.words + 1 → RestInvariant z (ghost_step g (Checkpoint r) (At ((retirement_at s.words r).step + 1))) (read s r).after
    unfolding F own
    read_kept two not_end =
        let step : ℕ = (retirement_at s.words r).step in
        let high : step ≤ readers s.words + 1 = fits_r.step_high in
        let not_last : is_last_step g.told.deferral (step + 1) ≡ false = ne_eqb (step + 1) (g.told.deferral.participants + 2) (λ eq. not_end (omega (arith, participants))) in
        let later : eqb (step + 1) 1 ≡ false = ne_eqb (step + 1) 1 (λ eq. omega arith) in
        let x : Reader = reader s r second≔ least_read s r in
        moved_rest _ _ r x _ _ _ _ (step_moves (step + 1) x) version_low (no_damage.readers_undamaged r named) (no_damage.publishers_undamaged r lt_r)
        (stay_core (step + 1) not_last later) (stay_phases (step + 1) later) (step_fits (step + 1) (omega arith))
        (rw (later, upd_same (publisher_at s.words) r, upd_same (retired_at s.words) r) (rw (upd_same g.told.deferral.picks r) at (read_epochs _ _ _ _ _ _ i.epochs r apart two)))
        (rw (upd_same (publisher_at s.words) r, upd_same (retired_at s.words) r) (step_told _ _ _ _ _ _ _ _ i.told_epochs r (step + 1) x not_last
        (rw later (i.told_epochs.loads_are r (omega arith))) (rw (ne_eqb (step + 1) 2 (λ eq. omega arith)) (i.told_epochs.observed_are r)) (λ _. least_told _ _ _ _ _ _ _ _ i.told_epochs r two (omega arith))))
        (rw (later, upd_same F r) i.since)

    -- The last step: x is the reader then, e its retired slots and m how many stay.
    module _ (two : 2 ≤ (retirement_at s.words r).step) (at-end : (retirement_at s.words r).step ≡ readers s.words + 1) where
      x : Reader
      x = reader s r second≔ least_read s r

      e : ℕ → Retired
      e = retired_at (after_freeing s r).words r

      m : ℕ
      m = (after_freeing s r).count

      k : ℕ
      k = (retirement_at s.words r).step + 1

      is_last : is_last_step g.told.deferral k ≡ true
      unfolding k
      is_last = eq-eqb k (g.told.deferral.participants + 2) (omega (arith, participants))

      later : eqb k 1 ≡ false
      unfolding k
      later = ne_eqb k 1 (λ eq. omega arith)

      -- Those stay that have a mark above the least read.
      stays : (f : Retired → Bool) → any_below (λ j. f (e j)) m ≡ any_below (λ j. ltb (least_read s r) (retired_at s.words r j).mark && f (retired_at s.words r j)) (retirement_at s.words r).count
      unfolding e m
      stays f = any_stays f r (least_read s r) (retirement_at s.words r).count (with_reader s.words r (reader s r second≔ least_read s r)) fits_r.count_high (low_of r lt_r) (length_reader s.words r _ ∙ no_damage.head.long)
          ∙ ap (λ (ds : ℕ → ℕ → Retired). any_below (λ j. ltb (least_read s r) (ds r j).mark && f (ds r j)) (retirement_at s.words r).count) (retired_reader s.words r _ (omega (arith, low_of r lt_r)))

      none_stays : (f : Retired → Bool) → any_below (λ j. f (retired_at s.words r j)) (retirement_at s.words r).count ≡ false → any_below (λ j. f (e j)) m ≡ false
      none_stays f none-was = stays f ∙ no_below (λ j. ltb (least_read s r) (retired_at s.words r j).mark && f (retired_at s.words r j)) _ (λ j l. and_not (ltb (least_read s r) (retired_at s.words r j).mark) (f (retired_at s.words r j)) (λ _. none_below (λ j. f (retired_at s.words r j)) _ j none-was l))

      fewer_stay : (f : Retired → Bool) → count_below (λ j. f (e j)) m ≤ count_below (λ j. f (retired_at s.words r j)) (retirement_at s.words r).count
      unfolding e m
      fewer_stay f = rw (retired_reader s.words r (reader s r second≔ least_read s r) (omega (arith, low_of r lt_r))) at
          (count_stays f r (least_read s r) (retirement_at s.words r).count (with_reader s.words r (reader s r second≔ least_read s r)) fits_r.count_high (low_of r lt_r) (length_reader s.words r _ ∙ no_damage.head.long))

      told_after : ToldEpochs z.version (readers s.words) (after_step g.told.deferral r k) (version s.words) (upd (reader_at s.words) r x) (publisher_at s.words) (upd (retirement_at s.words) r (retirement_at s.words r step≔ 0 count≔ m)) (upd (retired_at s.words) r e)
      unfolding k x
      told_after = last_told _ _ _ _ _ _ _ _ i.told_epochs r m x e is_last two refl (least_told _ _ _ _ _ _ _ _ i.told_epochs r two (omega arith)) stays

      -- The slots that stay, as told: those marked before and not freed.
      queued_after : (slot : ℕ) → is_marked (choose (freed_by g.told.deferral r k slot) none (g.told.deferral.marks r slot)) ≡ any_below (λ j. eqb (e j).slot slot) m
      queued_after slot = rw (same r) at (told_after.queued_are r slot)

      freed_marked : (slot : ℕ) → freed_by g.told.deferral r k slot ≡ true → is_marked (g.told.deferral.marks r slot) ≡ true
      freed_marked slot freed = go (g.told.deferral.marks r slot) (and_true (is_last_step g.told.deferral k) _ freed).1
        where
          go : (mark : Option ℕ) → reached (least_after g.told.deferral r k) mark ≡ true → is_marked mark ≡ true
          go none d = clash (sym d)
          go (some mark) d = refl

      own_unmarked : (slot : ℕ) → formers (publisher s r) slot ≡ true → is_marked (g.told.deferral.marks r slot) ≡ false
      own_unmarked slot held =
          let parts = and_true (leb place_swapped (publisher s r).place) (eqb (publisher s r).held slot) held in
          i.told_epochs.queued_are r slot ∙ rw (← eqb-true (publisher s r).held slot parts.1) (i.epochs.unqueued r (leb-true 34 (publisher s r).place parts.0))

      former_after : (slot : ℕ) → not (freed_by g.told.deferral r k slot) && g.told.former r slot ≡ any_below (λ j. eqb (e j).slot slot) m || formers (publisher s r) slot
      former_after slot = rw ((i.shared.core.publishers r).former_is slot, ← queued_after slot, ← i.told_epochs.queued_are r slot)
          (go (freed_by g.told.deferral r k slot) refl (is_marked (g.told.deferral.marks r slot)) refl (formers (publisher s r) slot) refl)
        where
          go : (freed : Bool) → freed_by g.told.deferral r k slot ≡ freed → (marked : Bool) → is_marked (g.told.deferral.marks r slot) ≡ marked → (held : Bool) → formers (publisher s r) slot ≡ held
              → not freed && (is_marked (g.told.deferral.marks r slot) || held) ≡ is_marked (choose freed none (g.told.deferral.marks r slot)) || held
          go true d marked d' true d'' = clash (sym (freed_marked slot d) ∙ own_unmarked slot d'')
          go true d marked d' false d'' = refl
          go false d marked d' held d'' = refl

      -- Who picked one of its retired slots has observed an epoch at or above the least read, and so the slot stays.
      kept_slot : (j slot : ℕ) → g.told.deferral.picks j slot ≡ true → any_below (λ n. eqb (retired_at s.words r n).slot slot) (retirement_at s.words r).count ≡ true → any_below (λ n. eqb (e n).slot slot) m ≡ true
      kept_slot j slot picked there =
          let found = any_below_lem (λ n. eqb (retired_at s.words r n).slot slot) (retirement_at s.words r).count there in
          stays (λ d. eqb d.slot slot) ∙ some_below (λ n. ltb (least_read s r) (retired_at s.words r n).mark && eqb (retired_at s.words r n).slot slot) (retirement_at s.words r).count found.0 found.1
          (rw (lt-ltb (least_read s r) (retired_at s.words r found.0).mark (above found.0 found.1 (eqb-true _ _ found.2)), found.2) refl)
        where
          above : (n : ℕ) → n < (retirement_at s.words r).count → (retired_at s.words r n).slot ≡ slot → least_read s r < (retired_at s.words r n).mark
          above n l same-slot =
              let later-so = i.epochs.later r j n l (rw same-slot picked) in
              let low = least_low _ _ _ _ _ _ i.epochs r j two (omega (arith, (i.since j slot picked).0)) in
              omega arith

      was_slot : (slot : ℕ) → any_below (λ n. eqb (e n).slot slot) m ≡ true → any_below (λ n. eqb (retired_at s.words r n).slot slot) (retirement_at s.words r).count ≡ true
      was_slot slot there =
          let found = any_below_lem (λ n. ltb (least_read s r) (retired_at s.words r n).mark && eqb (retired_at s.words r n).slot slot) (retirement_at s.words r).count (sym (stays (λ d. eqb d.slot slot)) ∙ there) in
          some_below (λ n. eqb (retired_at s.words r n).slot slot) (retirement_at s.words r).count found.0 found.1 (and_true (ltb (least_read s r) (retired_at s.words r found.0).mark) (eqb (retired_at s.words r found.0).slot slot) found.2).1

      last_core : Core g.model (ghost_step g (Checkpoint r) (At k)).told (readers s.words) (publishers s.words) (current s.words) (upd (λ j. (reader s j).place) r (reader s r).place) (upd (λ j. (reader s j).picked) r (reader s r).picked)
          (upd (λ q. (publisher s q).place) r (publisher s r).place) (upd (λ q. (publisher s q).held) r (publisher s r).held) (upd F r (λ slot. any_below (λ j. eqb (e j).slot slot) m || formers (publisher s r) slot)) (slot_entry s.entries)
      unfolding F
      last_core = rw (later, upd_same (λ j. (reader s j).place) r, upd_same (λ j. (reader s j).picked) r, upd_same (λ q. (publisher s q).place) r, upd_same (λ q. (publisher s q).held) r)
          (shrink_core _ _ _ _ _ _ _ _ _ _ _ i.shared.core r (λ slot. any_below (λ j. eqb (e j).slot slot) m || formers (publisher s r) slot) _ _ fewer kept
          (at_or r (λ slot. rw (same r) (former_after slot)) (λ q ne slot. rw ne ((i.shared.core.publishers q).former_is slot))))
        where
          fewer : (slot : ℕ) → any_below (λ j. eqb (e j).slot slot) m || formers (publisher s r) slot ≡ true → F r slot ≡ true
          fewer slot there = go (or_either (any_below (λ j. eqb (e j).slot slot) m) (formers (publisher s r) slot) there)
            where
              go : (any_below (λ j. eqb (e j).slot slot) m ≡ true) ⊎ (formers (publisher s r) slot ≡ true) → F r slot ≡ true
              go (inl d) = or_left (retired_slot s r slot) _ (was_slot slot d)
              go (inr d) = or_right (retired_slot s r slot) _ d

          kept : (j : ℕ) → (reader s j).place ≡ place_picked → F r (reader s j).picked ≡ true → any_below (λ n. eqb (e n).slot (reader s j).picked) m || formers (publisher s r) (reader s j).picked ≡ true
          kept j five there = go (or_either (retired_slot s r (reader s j).picked) (formers (publisher s r) (reader s j).picked) there)
            where
              go : (retired_slot s r (reader s j).picked ≡ true) ⊎ (formers (publisher s r) (reader s j).picked ≡ true) → any_below (λ n. eqb (e n).slot (reader s j).picked) m || formers (publisher s r) (reader s j).picked ≡ true
              go (inl d) = or_left (any_below (λ n. eqb (e n).slot (reader s j).picked) m) _ (kept_slot j (reader s j).picked (i.epochs.picked_is j five) d)
              go (inr d) = or_right (any_below (λ n. eqb (e n).slot (reader s j).picked) m) _ d

      freed_count : m ≤ 0 + (retirement_at s.words r).count
      unfolding m
      freed_count = (frees r (least_read s r) (retirement_at s.words r).count 0 0 (with_reader s.words r (reader s r second≔ least_read s r)) (omega arith) (omega (arith, fits_r.count_high)) (low_of r lt_r) (length_reader s.words r _ ∙ no_damage.head.long)).count_high

      -- A slot picked and not dropped since is not among the freed ones.
      since_last : Since g.told.deferral.picks (readers s.words) (current s.words) (upd F r (λ slot. any_below (λ j. eqb (e j).slot slot) m || formers (publisher s r) slot))
      unfolding F
      since_last j slot picked = let was = i.since j slot picked in (was.0, go was.1)
        where
          stays_held : (retired_slot s r slot ≡ true) ⊎ (formers (publisher s r) slot ≡ true) → any_below (λ n. eqb (e n).slot slot) m || formers (publisher s r) slot ≡ true
          stays_held (inl d) = or_left (any_below (λ n. eqb (e n).slot slot) m) _ (kept_slot j slot picked d)
          stays_held (inr d) = or_right (any_below (λ n. eqb (e n).slot slot) m) _ d

          of_r : F r slot ≡ true → upd F r (λ slot. any_below (λ j. eqb (e j).slot slot) m || formers (publisher s r) slot) r slot ≡ true
          of_r there = rw (same r) (stays_held (or_either (retired_slot s r slot) (formers (publisher s r) slot) there))

          go : CurrentOrFormer (current s.words) F slot → CurrentOrFormer (current s.words) (upd F r (λ slot. any_below (λ j. eqb (e j).slot slot) m || formers (publisher s r) slot)) slot
          go (is_current d) = is_current d
          go (is_former q d) = is_former q (at_or r {Q = λ q. F q slot ≡ true → upd F r (λ slot. any_below (λ j. eqb (e j).slot slot) m || formers (publisher s r) slot) q slot ≡ true} of_r (λ q' ne there. rw ne there) q d)

      last_fits : RetirementFits (readers s.words) (slots s.words) (publisher s r) (retirement_at s.words r step≔ 0 count≔ m) e
      last_fits = record {
        step_high = omega arith;
        count_high = omega (arith, fits_r.count_high, freed_count);
        room = λ at35. absurd (apart at35);
        slots_below = λ j l. leb-false _ _ (none_below (λ j. leb (slots s.words) (e j).slot) m j (none_stays (λ d. leb (slots s.words) d.slot) (no_below (λ j. leb (slots s.words) (retired_at s.words r j).slot) _ (λ j l. lt-leb _ _ (fits_r.slots_below j l)))) l);
      }

      last_kept : RestInvariant z (ghost_step g (Checkpoint r) (At ((retirement_at s.words r).step + 1))) (read_last s r).after
      unfolding F own x e m k
      last_kept =
          let start = reader_moves s.words r no_damage.head.long (low_of r lt_r) x in
          let freed = and_freed s.words r no_damage.head.long (low_of r lt_r) _ x _ _ _ _ start (least_read s r) (retirement_at s.words r).count fits_r.count_high in
          moved_rest _ _ r x _ _ _ _ (and_retirement s.words r no_damage.head.long (low_of r lt_r) _ x _ _ _ _ freed (retirement_at s.words r step≔ 0 count≔ m)) version_low
          (no_damage.readers_undamaged r named) (no_damage.publishers_undamaged r lt_r)
          last_core (stay_phases k later) last_fits
          (rw (later, upd_same (publisher_at s.words) r) (last_epochs _ _ _ _ _ _ i.epochs r m e apart two none_stays fewer_stay))
          (rw (upd_same (publisher_at s.words) r) told_after)
          (rw later since_last)

    pub checkpoint_kept : RestInvariant z (ghost_step g (Checkpoint r) (checkpoint s r).reply) (checkpoint s r).after
    checkpoint_kept = choose_split Kept (eqb (retirement_at s.words r).step 0) (λ d. load_kept (eqb-true _ _ d))
        (λ d. choose_split Kept (eqb (retirement_at s.words r).step 1) (λ d'. observe_kept (eqb-true _ _ d'))
        (λ d'. let not-0 = eqb-false (retirement_at s.words r).step 0 d in let not-1 = eqb-false (retirement_at s.words r).step 1 d' in
        choose_split Kept (eqb (retirement_at s.words r).step (readers s.words + 1)) (λ d''. last_kept (omega arith) (eqb-true _ _ d'')) (λ d''. read_kept (omega arith) (eqb-false _ _ d''))))
      where
        Kept : Outcome → Type 0
        Kept o = RestInvariant z (ghost_step g (Checkpoint r) o.reply) o.after

  -- DEFER: outside a checkpoint, at 34 or 35.
  module _ (p : ℕ) (f : AllClear (defer_tests s p)) where
    lt_p : p < publishers s.words
    lt_p = leb-false _ _ f.0

    named_p : p < readers s.words
    named_p = omega (arith, i.as_many, lt_p)

    turn_p : (not (eqb (publisher s p).place place_swapped || eqb (publisher s p).place place_deferring) ≡ false) × (not (eqb (retirement_at s.words p).step 0) ≡ false)
    turn_p = or_false (not (eqb (publisher s p).place place_swapped || eqb (publisher s p).place place_deferring)) (not (eqb (retirement_at s.words p).step 0)) f.1.0

    out_p : (retirement_at s.words p).step ≡ 0
    out_p = eqb-true _ _ (not-false _ turn_p.1)

    -- The former slots of p are the same ones, by another place or queue.
    moved_since : {own-now : ℕ → Bool} → ((slot : ℕ) → own-now slot ≡ F p slot) → Since g.told.deferral.picks (readers s.words) (current s.words) (upd F p own-now)
    unfolding F
    moved_since {own-now = own-now} e r slot picked = let was = i.since r slot picked in (was.0, go was.1)
      where
        go : CurrentOrFormer (current s.words) F slot → CurrentOrFormer (current s.words) (upd F p own-now) slot
        go (is_current d) = is_current d
        go (is_former q d) = is_former q (at_or p {Q = λ q. F q slot ≡ true → upd F p own-now q slot ≡ true} (λ there. rw (same p) (e slot ∙ there)) (λ q' ne there. rw ne there) q d)

    -- At 34.
    raise_kept : (publisher s p).place ≡ place_swapped → RestInvariant z (ghost_step g (Defer p) (At place_deferring)) (raise_epoch s p).after
    unfolding F own kind_law
    raise_kept at34 =
        let not_end : version s.words ≢ last_version = eqb-false (version s.words) last_version (and_false (eqb (publisher s p).place place_swapped) _ f.1.1.0 (eq-eqb _ _ at34)) in
        let room : (retirement_at s.words p).count ≢ deferred_max = eqb-false (retirement_at s.words p).count deferred_max (and_false (eqb (publisher s p).place place_swapped) _ f.1.1.1.0 (eq-eqb _ _ at34)) in
        let x : Reader = reader s p place≔ place_out in
        let y : Publisher = publisher s p at_place place_deferring walk≔ ((publisher s p).walk mark≔ (version s.words + 1)) in
        let start = reader_moves s.words p no_damage.head.long (low_of p lt_p) x in
        let both = and_publisher s.words p no_damage.head.long (low_of p lt_p) _ x _ _ _ _ start y in
        let fits = i.retirements_fit p lt_p in
        moved_rest _ _ p x y _ _ _ (and_version s.words p no_damage.head.long (low_of p lt_p) _ x y _ _ _ both (version s.words + 1)) (omega (arith, version_low)) refl
        (publisher_undamaged kind_law (readers s.words) (slots s.words) y refl (record {
          held_below = λ _. held_below p lt_p (omega arith);
          mark_fits = λ _. neither (eqb (version s.words + 1) 0) (ltb last_version (version s.words + 1)) (ne_eqb (version s.words + 1) 0 (λ eq. omega arith)) (le-ltb last_version (version s.words + 1) (omega (arith, version_low)));
          waits_low = λ _. i.epochs.waits_low p;
        }))
        (late_core _ _ _ _ _ _ _ _ _ _ _ (drop_core _ _ _ _ _ _ _ _ _ _ _ i.shared.core p (reader s p).picked (after_raise g.told.deferral p)) p 35 (publisher s p).held _ (λ l l'. omega arith) (λ l l'. omega arith)
        (λ slot. formers_same (retired_slot s p slot) (publisher s p).place 35 (publisher s p).held slot (omega arith) (omega arith)))
        (move_phases _ _ _ _ (place_phases _ _ _ _ i.shared.phases p 0) p 35 synchronising refl)
        (record { step_high = fits.step_high; count_high = fits.count_high; room = λ _. omega (arith, fits.count_high); slots_below = fits.slots_below })
        (rw (upd_same (retired_at s.words) p) (raise_epochs _ _ _ _ _ _ i.epochs p out_p at34))
        (rw (upd_same (retired_at s.words) p) (raise_told _ _ _ _ _ _ _ _ i.told_epochs p out_p))
        (at_or p (λ slot. rw (same p) (λ there. clash (sym there))) (λ j e slot. rw e (λ there. moved_since (λ slot'. formers_same (retired_slot s p slot') (publisher s p).place 35 (publisher s p).held slot' (omega arith) (omega arith)) j slot there)))

    -- At 35.
    queue_kept : (publisher s p).place ≡ place_deferring → RestInvariant z (ghost_step g (Defer p) (At place_idle)) (queue s p).after
    unfolding F own
    queue_kept at35 =
        let fits = i.retirements_fit p lt_p in
        let room : (retirement_at s.words p).count < deferred_max = fits.room at35 in
        let below = held_below p lt_p (omega arith) in
        let x : Reader = reader s p published≔ (publisher s p).walk.mark in
        let y : Publisher = publisher s p at_place place_idle in
        let d : Retired = record { slot = (publisher s p).held; mark = (publisher s p).walk.mark } in
        let start = reader_moves s.words p no_damage.head.long (low_of p lt_p) x in
        let both = and_publisher s.words p no_damage.head.long (low_of p lt_p) _ x _ _ _ _ start y in
        let queued = and_retired s.words p no_damage.head.long (low_of p lt_p) _ x y _ _ _ both (retirement_at s.words p).count d room in
        moved_rest _ _ p x y _ _ _ (and_retirement s.words p no_damage.head.long (low_of p lt_p) _ x y _ _ _ queued (retirement_at s.words p count≔ (retirement_at s.words p).count + 1)) version_low
        (no_damage.readers_undamaged p named_p) (early_fits kind_law (readers s.words) (slots s.words) y (omega arith) (λ l. absurd (omega arith)))
        (rw (upd_same (λ j. (reader s j).place) p, upd_same (λ j. (reader s j).picked) p)
        (late_core _ _ _ _ _ _ _ _ _ _ _ (told_core _ _ _ _ _ _ _ _ _ _ _ i.shared.core _) p 0 (publisher s p).held _ (λ l l'. omega arith) (λ l l'. omega arith) (queued_formers at35)))
        (rw (upd_same (λ j. (reader s j).place) p) (move_phases _ _ _ _ i.shared.phases p 0 idle refl))
        (record {
          step_high = fits.step_high;
          count_high = omega arith;
          room = λ e. absurd (omega arith);
          slots_below = λ j l. choose_split (λ (d' : Retired). d'.slot < slots s.words) (eqb j (retirement_at s.words p).count) (λ _. below) (λ ne. let unequal = eqb-false j (retirement_at s.words p).count ne in fits.slots_below j (omega arith));
        })
        (queue_epochs _ _ _ _ _ _ i.epochs p out_p at35)
        (queue_told _ _ _ _ _ _ _ _ i.told_epochs p (g.told.former p) out_p at35 (i.epochs.unqueued p (omega arith)) (λ slot. (i.shared.core.publishers p).former_is slot ∙ rw at35 refl))
        (moved_since (queued_formers at35))
      where
        d : Retired
        d = record { slot = (publisher s p).held; mark = (publisher s p).walk.mark }

        queued_formers : (publisher s p).place ≡ place_deferring → (slot : ℕ)
            → any_below (λ j. eqb (upd (retired_at s.words p) (retirement_at s.words p).count d j).slot slot) ((retirement_at s.words p).count + 1) || false ≡ retired_slot s p slot || formers (publisher s p) slot
        queued_formers at35 slot = or_none _ ∙ (any_more (λ j. eqb (upd (retired_at s.words p) (retirement_at s.words p).count d j).slot slot) (retirement_at s.words p).count
            ∙ rw (same (retirement_at s.words p).count, below_same (λ j. eqb (upd (retired_at s.words p) (retirement_at s.words p).count d j).slot slot) (λ j. eqb (retired_at s.words p j).slot slot) (retirement_at s.words p).count (λ j l. rw (ne_eqb j (retirement_at s.words p).count (λ eq. omega arith)) refl), at35) refl)

    pub defer_kept : RestInvariant z (ghost_step g (Defer p) (defer s p).reply) (defer s p).after
    defer_kept = choose_split (λ (o : Outcome). RestInvariant z (ghost_step g (Defer p) o.reply) o.after) (eqb (publisher s p).place place_swapped) (λ d. raise_kept (eqb-true _ _ d))
        (λ d. queue_kept (eqb-true _ _ (rw d at (not-false (eqb (publisher s p).place place_swapped || eqb (publisher s p).place place_deferring) turn_p.0))))
