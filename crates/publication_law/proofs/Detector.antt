-- What a kind adds to the shared invariant is kept wherever what the kind says of the record that moves holds; so a kind shows only that.
-- DetectorInvariant has the definitions. Assumes nothing.
use Rattle.std.specs.Prelude.{ℕ, ◌+◌, ◌<◌, ◌≤◌, ◌≡◌, refl, Bool, true, false, List, ℤ, eqb}
use Rattle.std.proofs.Common.{arith, sym, ◌∙◌, leb-true, leb-false}
use Rattle.base.specs.Base.{upd}
use Rattle.base.specs.RowLaws.{clash, choose_split, same, at_or, AllClear}
use Rattle.calls.specs.declared.Call.TheVariants.{Enter, Leave, Sync, Raise, Walk}
use Rattle.calls.specs.declared.Reply.TheVariants.{At, Left, Synced, Walked}
use Rattle.calls.specs.declared.WalkReply.TheVariants.{Returned}
use Rattle.calls.specs.Numbers.{place_out, place_open, place_swapped, place_synchronising, place_quiet, place_raised, place_returned}
use Rattle.layout.specs.declared.Reader.{Reader}
use Rattle.layout.specs.declared.Publisher.{Publisher}
use Rattle.layout.specs.declared.WalkResult.{WalkResult}
use Rattle.layout.specs.Layout.{readers_at, version_at, readers, publishers, slots, current, version, releases, indicator, reader_at}
use Rattle.layout.specs.Records.{◌at_place◌, ◌walk≔◌}
use Rattle.layout.specs.Laws.{fresh_publisher}
use Rattle.statement.specs.Machine.{State, state, Outcome, Given}
use Rattle.statement.specs.Companions.{GraceTraits}
use Rattle.statement.specs.KeptInvariant.{Ghost, ghost₀, ghost_step, Back}
use Rattle.publication_law.specs.Steps.{reader, publisher, sync_tests, sync, new_walk, raise, place_after, walked, walk, made}
use Rattle.publication_law.specs.Damage.{DamageRules}
use Rattle.publication_law.specs.KindLaw.{KindLaw}
use Rattle.publication_law.specs.Onward.{Onward}
use Rattle.publication_law.specs.Decide.{raise_split}
use Rattle.publication_law.specs.Moves.{MovesPublisher, MovesReader, publisher_moves, publisher_moves_head}
use Rattle.publication_law.specs.GraceKeeps.{waits_after}
use Rattle.publication_law.proofs.GraceKeeps.{enter_keeps, leave_keeps, sync_keeps, raise_keeps, walk_keeps, raised_in_order}
use Rattle.publication_law.specs.DetectorInvariant.{Detector, invariant_of}
use Rattle.publication_law.specs.KindShows.{WholeInvariant}

module _ (D : Detector) where
  -- At the start nobody is waited for.
  pub start_own : (number : ℕ) (x : Reader) (z : Given) (s : State) → (let w = (made number x z s).words in D.Readers (version w) (readers w) (indicator w) (reader_at w)) → invariant_of D (ghost₀ z.readers z.table) (made number x z s)
  start_own number x z s f = record {
    waited_for = λ p r e. clash (sym e);
    counted = λ p. rw (fresh_publisher number z.readers z.publishers z.slots z.version x p) (λ l. absurd (omega arith));
    readers_are = f;
  }

  -- A reader moves, and is waited for only where it was and what holds of it stays.
  reader_own : (g g' : Ghost) (s : State) (w' : List ℕ) (r : ℕ) (x : Reader) → invariant_of D g s → MovesReader s.words w' r x → ((p r' : ℕ) → g'.pend p r' ≡ true → g.pend p r' ≡ true)
      → ((p : ℕ) → g'.pend p r ≡ true → D.WaitedFor (readers s.words) (reader s r) (publisher s p) r → D.WaitedFor (readers s.words) x (publisher s p) r)
      → D.Readers (version s.words) (readers s.words) (indicator w') (upd (reader_at s.words) r x) → invariant_of D g' (state w' s.entries)
  reader_own g g' s w' r x own m sub stays f = rw (m.head version_at (omega arith), m.head readers_at (omega arith), m.readers_are, m.publishers_stay) (record {
    waited_for = λ p. at_or r (rw (same r) (λ e. stays p e (own.waited_for p r (sub p r e)))) (λ r' d. rw d (λ e. own.waited_for p r' (sub p r' e)));
    counted = own.counted;
    readers_are = f;
  })

  -- A publisher moves, and perhaps the version.
  moved_own : (g g' : Ghost) (s : State) (w' : List ℕ) (es' : List ℤ) (p : ℕ) (y : Publisher) (cur ver rel : ℕ) → invariant_of D g s → MovesPublisher s.words w' p y cur ver rel
      → ((q r : ℕ) → eqb q p ≡ false → g'.pend q r ≡ g.pend q r) → ((r : ℕ) → g'.pend p r ≡ true → D.WaitedFor (readers s.words) (reader s r) y r)
      → (place_synchronising ≤ y.place → y.walk.looks ≡ D.passed y + y.walk.waits) → D.Readers ver (readers s.words) (indicator s.words) (reader_at s.words) → invariant_of D g' (state w' es')
  moved_own g g' s w' es' p y cur ver rel own m others waited-ok counted-ok f = rw (m.version_is, m.head readers_at (omega arith), m.indicators_stay, m.readers_stay, m.publishers_are) (record {
    waited_for = at_or p (rw (same p) waited-ok) (λ q e r. rw (e, others q r e) (own.waited_for q r));
    counted = at_or p (rw (same p) counted-ok) (λ q e. rw e (own.counted q));
    readers_are = f;
  })

  pub early_own : (g g' : Ghost) (s : State) (w' : List ℕ) (es' : List ℤ) (p : ℕ) (y : Publisher) (cur rel : ℕ) → invariant_of D g s → g'.pend ≡ g.pend
      → MovesPublisher s.words w' p y cur (version s.words) rel → y.walk ≡ (publisher s p).walk → y.place ≤ place_swapped → invariant_of D g' (state w' es')
  early_own g g' s w' es' p y cur rel own same-pend m e low = moved_own g g' s w' es' p y cur _ rel own m (λ q r d. rw same-pend refl)
      (λ r. rw same-pend (λ e'. D.early _ _ (publisher s p) y r e low (own.waited_for p r e'))) (λ l. absurd (omega arith)) own.readers_are

  module _ (K : DamageRules) (law : KindLaw K) (z : Given) (g : Ghost) (s : State) (i : WholeInvariant K (invariant_of D) z g s) where
    -- ENTER: what holds of a reader in a section stays; LEAVE: it is waited for no more.
    module _ (w' : List ℕ) (r : ℕ) (x : Reader) (m : MovesReader s.words w' r x) (ok : K.reader_damaged (readers s.words) (slots s.words) x ≡ false)
        (f : D.Readers (version s.words) (readers s.words) (indicator w') (upd (reader_at s.words) r x)) where
      pub enter_invariant : r < readers s.words → Onward (current s.words) (reader s r).place (reader s r).picked x.place x.picked
          → (place_open ≤ (reader s r).place → (y : Publisher) → D.WaitedFor (readers s.words) (reader s r) y r → D.WaitedFor (readers s.words) x y r)
          → WholeInvariant K (invariant_of D) z (ghost_step g (Enter r) (At x.place)) (state w' s.entries)
      enter_invariant rn on stays = record {
        shared = enter_keeps K z g s i.shared w' r x m ok rn on;
        own = reader_own g (ghost_step g (Enter r) (At x.place)) s w' r x i.own m (λ p r' e. e) (λ p e. stays (i.shared.grace.awaited p r e).opened (publisher s p)) f;
      }

      pub leave_invariant : x.place ≡ place_out → WholeInvariant K (invariant_of D) z (ghost_step g (Leave r) Left) (state w' s.entries)
      leave_invariant out = record {
        shared = leave_keeps K z g s i.shared w' r x m ok out;
        own = reader_own g (ghost_step g (Leave r) Left) s w' r x i.own m
            (λ p r'. choose_split (λ (test : Bool). test ≡ true → g.pend p r' ≡ true) (eqb r' r) (λ _ e. clash (sym e)) (λ _ e. e)) (λ p. rw (same r) (λ e. clash (sym e))) f;
      }

    pub sync_invariant : (p : ℕ) → AllClear (sync_tests K.versions s p)
        → (let y : Publisher = publisher s p at_place place_synchronising walk≔ new_walk (publisher s p).walk (K.versions.mark_at (version s.words)) in
        law.extra_damage (readers s.words) y ≡ false → D.passed y ≡ 0 → ((r : ℕ) → place_open ≤ (reader s r).place → D.WaitedFor (readers s.words) (reader s r) y r)
        → WholeInvariant K (invariant_of D) z (ghost_step g (Sync p) (Synced (K.versions.mark_at (version s.words)))) (sync K.versions s p).after)
    sync_invariant p f clear none open-waited =
        let y : Publisher = publisher s p at_place place_synchronising walk≔ new_walk (publisher s p).walk (K.versions.mark_at (version s.words)) in record {
          shared = sync_keeps K law z g s i.shared p f clear;
          own = moved_own g (ghost_step g (Sync p) (Synced (K.versions.mark_at (version s.words)))) s _ s.entries p y _ _ _ i.own (publisher_moves i.shared.every.no_damage p y (leb-false _ _ f.0)) (λ q r e. rw e refl)
              (λ r. rw (same p) (λ e. open-waited r (leb-true 4 (reader s r).place (sym (i.shared.grace.inside_is r) ∙ e)))) (λ l. rw none refl) i.own.readers_are;
        }

    -- RAISE, at 35 or 36; the raised version is the mark.
    pub raise_invariant : (p : ℕ) → p < publishers s.words → place_synchronising ≤ (publisher s p).place → (publisher s p).place ≤ place_quiet → law.extra_damage (readers s.words) (publisher s p at_place place_raised) ≡ false
        → D.passed (publisher s p at_place place_raised) ≡ D.passed (publisher s p)
        → ((r : ℕ) → D.WaitedFor (readers s.words) (reader s r) (publisher s p) r → D.WaitedFor (readers s.words) (reader s r) (publisher s p at_place place_raised) r)
        → (version s.words ≡ K.versions.before_mark (publisher s p).walk.mark → D.Readers (publisher s p).walk.mark (readers s.words) (indicator s.words) (reader_at s.words))
        → WholeInvariant K (invariant_of D) z (ghost_step g (Raise p) (raise K.versions s p).reply) (raise K.versions s p).after
    raise_invariant p lt low high clear passes still-waited raised = record {
      shared = raise_keeps K law z g s i.shared p lt low high clear;
      own = raise_split (λ (o : Outcome). invariant_of D g o.after) K.versions s p
          (λ e. to _ _ (publisher_moves_head i.shared.every.no_damage p (publisher s p at_place place_raised) lt version_at (publisher s p).walk.mark (omega arith) (omega arith)) (raised e))
          (to _ _ (publisher_moves i.shared.every.no_damage p (publisher s p at_place place_raised) lt) i.own.readers_are);
    }
      where
        to : (w' : List ℕ) (ver : ℕ) → MovesPublisher s.words w' p (publisher s p at_place place_raised) (current s.words) ver (releases s.words)
            → D.Readers ver (readers s.words) (indicator s.words) (reader_at s.words) → invariant_of D g (state w' s.entries)
        to w' ver m f = moved_own g g s w' s.entries p _ _ _ _ i.own m (λ q r d. refl) (λ r e. still-waited r (i.own.waited_for p r e)) (λ _. rw passes (i.own.counted p low)) f

    -- WALK, at 35 to 37: the result of its looks keeps the mark, counts them, and returns only where nobody is waited for.
    module _ (p b : ℕ) (lt : p < publishers s.words) (low : place_synchronising ≤ (publisher s p).place) (high : (publisher s p).place ≤ place_raised) (result : WalkResult)
        (waits_are : result.walk.waits ≡ waits_after (publisher s p).walk.waits result.reply) (counted : result.walk.looks ≡ D.passed (walked (publisher s p) result) + result.walk.waits) where
      pub walk_invariant : (place_after (publisher s p).place result.reply ≡ place_returned → (r : ℕ) → g.pend p r ≡ false) → result.walk.mark ≡ (publisher s p).walk.mark → law.extra_damage (readers s.words) (walked (publisher s p) result) ≡ false
          → ((r : ℕ) → g.pend p r ≡ true → D.WaitedFor (readers s.words) (reader s r) (walked (publisher s p) result) r)
          → WholeInvariant K (invariant_of D) z (ghost_step g (Walk p b) (Walked result.reply)) (walk s p result).after
      walk_invariant done same-mark clear still-waited = record {
        shared = walk_keeps K law z g s i.shared p b lt low high result done waits_are same-mark (omega arith) clear;
        own = moved_own g (ghost_step g (Walk p b) (Walked result.reply)) s _ s.entries p _ _ _ _ i.own (publisher_moves i.shared.every.no_damage p (walked (publisher s p) result) lt) (λ q r e. refl) still-waited (λ _. counted) i.own.readers_are;
      }

      pub return_from_invariant : (traits : GraceTraits) (looks waits : ℕ) → (publisher s p).place ≡ place_raised → result.reply ≡ Returned looks waits → ((r : ℕ) → g.pend p r ≡ false) → looks ≡ result.walk.looks → waits ≡ result.walk.waits → D.passed (walked (publisher s p) result) ≡ traits.passes z → Back traits z g p looks waits
      return_from_invariant traits looks waits at37 e none_pending looks-is waits-is passes =
          let same-waits : result.walk.waits ≡ (publisher s p).walk.waits = waits_are ∙ rw e refl in record {
            none_pending = none_pending;
            in_order_lem = raised_in_order K z g s i.shared p at37;
            looks_are = omega arith;
            waits_are = waits-is ∙ (same-waits ∙ sym (i.shared.tallied.waits_are p low));
          }
