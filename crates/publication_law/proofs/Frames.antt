-- A call moves the record of the reader or publisher that it names and perhaps one number of the head, and nothing else: for every state. Assumes nothing.
use Rattle.std.specs.Prelude.{ℕ, zero, suc, ◌<◌, ◌≤◌, ◌≡◌, refl, ◌≢◌, Bool, true, false, not, ◌&&◌, List, ℤ, get_or, set, eqb}
use Rattle.std.proofs.Common.{arith, sym, ap, ◌∙◌, get_or-set_other, leb-false}
use Rattle.std.proofs.Math.Option.{some}
use Rattle.std.proofs.lemmas.Bool.{eqb-false}
use Rattle.base.specs.RowLaws.{AllClear, upd_other}
use Rattle.calls.specs.declared.Call.{Call}
use Rattle.calls.specs.declared.Call.TheVariants.{Enter, Look, Leave, Claim, Write, Swap, Sync, Raise, Walk, Release, Pick, Checkpoint, Defer}
use Rattle.layout.specs.declared.Reader.{Reader}
use Rattle.layout.specs.declared.Publisher.{Publisher}
use Rattle.layout.specs.declared.WalkResult.{WalkResult}
use Rattle.layout.specs.declared.Retirement.{Retirement}
use Rattle.layout.specs.declared.Retired.{Retired}
use Rattle.layout.specs.Layout.{head_word_count, current_at, version_at, releases_at, indicators_at, is_indicator_at, publishers, reader_words, reader_at, publisher_at, with_publisher}
use Rattle.layout.specs.Records.{◌at_place◌}
use Rattle.layout.specs.Laws.{head_publisher}
use Rattle.statement.specs.Machine.{State, Outcome}
use Rattle.statement.specs.Frame.{reader_named, publisher_named, head_named, One, PlaceAndOne, HeldAndWalkStay, NamedStays, Framed}
use Rattle.publication_law.specs.Clear.{ClaimClear}
use Rattle.publication_law.specs.Steps.{Versions, publisher, claim, write, write_tests, swap, swap_tests, sync, sync_tests, raise, walk, walked, release, release_tests, one_more}
use Rattle.publication_law.specs.Damage.{DamageRules}
use Rattle.publication_law.specs.DamageLaws.{Undamaged}
use Rattle.publication_law.specs.Decide.{raise_split}
use Rattle.publication_law.specs.Moves.{MovesPublisher, MovesReader, none_moved, one_moved, publisher_written, reader_written, publisher_moves, publisher_moves_head}

same_own : (publishes : Bool) (c : Call) (w : List ℕ) → NamedStays publishes c w w
same_own publishes (Enter r) w = (0, λ j l ne. refl)
same_own publishes (Look r k) w = refl
same_own publishes (Leave r) w = record { first = refl; second = refl; published = λ _. refl; picked = refl }
same_own publishes (Claim p slot) w = refl
same_own publishes (Write p v) w = record { held = refl; walk = refl }
same_own publishes (Swap p) w = refl
same_own publishes (Sync p) w = refl
same_own publishes (Raise p) w = record { held = refl; walk = refl }
same_own publishes (Walk p b) w = (refl, refl)
same_own publishes (Release p) w = record { held = refl; walk = refl }
same_own publishes (Pick r) w = record { first = refl; second = refl; published = refl }
same_own publishes (Checkpoint r) w = record { picked = refl; one = (0, λ j l ne. refl) }
same_own publishes (Defer p) w = record { first = refl; second = refl; picked = refl; held = refl; next = refl; looks = refl; waits = refl; step = refl; retired = λ i ne. refl }

pub same_framed : (publishes : Bool) (c : Call) (w : List ℕ) → Framed publishes c w w
same_framed publishes c w = record { long = refl; readers = λ r ne. refl; publishers = λ p ne. refl; retirements = λ p ne. refl; retired = λ p ne. refl; own_stays = same_own publishes c w; head = λ j l e. refl; one = none_moved w w (λ j l. refl) }

-- A reader of which besides its place only word j is new.
pub place_and_one : (x x' : Reader) (j : ℕ) → (1 ≢ j → x'.first ≡ x.first) → (2 ≢ j → x'.second ≡ x.second) → (3 ≢ j → x'.published ≡ x.published) → (4 ≢ j → x'.picked ≡ x.picked)
    → PlaceAndOne x x'
place_and_one x x' j first second published picked = (j, go)
  where
    go : (j' : ℕ) → j' ≢ 0 → j' ≢ j → get_or (reader_words x') j' 0 ≡ get_or (reader_words x) j' 0
    go zero place other = absurd (place refl)
    go (suc zero) place other = first other
    go (suc (suc zero)) place other = second other
    go (suc (suc (suc zero))) place other = published other
    go (suc (suc (suc (suc zero)))) place other = picked other
    go (suc (suc (suc (suc (suc j'))))) place other = refl

publisher_framed : (publishes : Bool) (c : Call) (w w' : List ℕ) (p : ℕ) (y : Publisher) (cur ver rel : ℕ) → MovesPublisher w w' p y cur ver rel → publisher_named c ≡ some p
    → (publisher_at w' p ≡ y → NamedStays publishes c w w') → ((j : ℕ) → j < head_word_count → head_named publishes c j ≡ false → get_or w' j 0 ≡ get_or w j 0) → One w w' → Framed publishes c w w'
publisher_framed publishes c w w' p y cur ver rel m e own stays one = record {
  long = m.long;
  readers = λ r ne. ap (λ (f : ℕ → Reader). f r) m.readers_stay;
  publishers = λ q ne. ap (λ (f : ℕ → Publisher). f q) m.publishers_are ∙ upd_other (publisher_at w) p y q (λ e'. ne (e ∙ ap some e'));
  retirements = λ q _. ap (λ (f : ℕ → Retirement). f q) m.retirements_stay;
  retired = λ q _. ap (λ (f : ℕ → ℕ → Retired). f q) m.retired_stay;
  own_stays = own (publisher_written m);
  head = stays;
  one = one;
}

-- ENTER and LEAVE, of whichever kind.
pub reader_framed : (publishes : Bool) (c : Call) (w w' : List ℕ) (r : ℕ) (x : Reader) → MovesReader w w' r x → reader_named c ≡ some r → head_named publishes c ≡ (λ j. not publishes && is_indicator_at j)
    → (publishes ≡ true → (j : ℕ) → j < head_word_count → get_or w' j 0 ≡ get_or w j 0) → (reader_at w' r ≡ x → NamedStays publishes c w w') → Framed publishes c w w'
reader_framed publishes c w w' r x m e named stays own = record {
  long = m.long;
  readers = λ r' ne. ap (λ (f : ℕ → Reader). f r') m.readers_are ∙ upd_other (reader_at w) r x r' (λ e'. ne (e ∙ ap some e'));
  publishers = λ p ne. ap (λ (f : ℕ → Publisher). f p) m.publishers_stay;
  retirements = λ q _. ap (λ (f : ℕ → Retirement). f q) m.retirements_stay;
  retired = λ q _. ap (λ (f : ℕ → ℕ → Retired). f q) m.retired_stay;
  own_stays = own (reader_written m);
  head = λ j l e'. at_head publishes refl j l (sym (ap (λ (f : ℕ → Bool). f j) named) ∙ e');
  one = m.one;
}
  where
    at_head : (test : Bool) → publishes ≡ test → (j : ℕ) → j < head_word_count → (not test && is_indicator_at j) ≡ false → get_or w' j 0 ≡ get_or w j 0
    at_head true d j l e' = stays d j l
    at_head false d j l e' = let before = leb-false indicators_at j e' in m.head j (omega arith)

-- A publisher of which only the place is new.
place_only : (y y' : Publisher) (n : ℕ) → y' ≡ y at_place n → HeldAndWalkStay y y'
place_only y y' n e = record { held = ap (λ (own : Publisher). own.held) e; walk = ap (λ (own : Publisher). own.walk) e }

module _ (publishes : Bool) (K : DamageRules) (s : State) (f : Undamaged K s) where
  -- A call that moves its publisher's record alone.
  record_framed : (c : Call) (p : ℕ) (y : Publisher) → p < publishers s.words → publisher_named c ≡ some p
      → (publisher_at (with_publisher s.words p y) p ≡ y → NamedStays publishes c s.words (with_publisher s.words p y)) → Framed publishes c s.words (with_publisher s.words p y)
  record_framed c p y lt e own = publisher_framed publishes c _ _ p _ _ _ _ (publisher_moves f p y lt) e own (λ j l e'. head_publisher s.words p y j l)
      (none_moved s.words (with_publisher s.words p y) (head_publisher s.words p y))

  -- .. and one that moves number j of the head besides.
  head_framed : (c : Call) (p : ℕ) (y : Publisher) (j n : ℕ) → p < publishers s.words → current_at ≤ j → j ≤ releases_at → publisher_named c ≡ some p → head_named publishes c ≡ (λ j'. eqb j' j)
      → (publisher_at (set (with_publisher s.words p y) j n) p ≡ y → NamedStays publishes c s.words (set (with_publisher s.words p y) j n)) → Framed publishes c s.words (set (with_publisher s.words p y) j n)
  head_framed c p y j n lt low high e named own = publisher_framed publishes c _ _ p _ _ _ _ (publisher_moves_head f p y lt j n low high) e own
      (λ j' l e'. get_or-set_other (with_publisher s.words p y) j j' n 0 (eqb-false j' j (sym (ap (λ (f' : ℕ → Bool). f' j') named) ∙ e')) ∙ head_publisher s.words p y j' l) (one_moved s.words (with_publisher s.words p y) j n (head_publisher s.words p y))

  pub claim_framed : (exclusive retiring : Bool) (p slot : ℕ) → ClaimClear exclusive retiring s p slot → Framed publishes (Claim p slot) s.words (claim s p slot).after.words
  claim_framed exclusive retiring p slot ok = record_framed (Claim p slot) p _ ok.publisher_named_lem refl (ap (λ (own : Publisher). own.walk))

  pub write_framed : (p : ℕ) (v : ℤ) → AllClear (write_tests s p v) → Framed publishes (Write p v) s.words (write s p v).after.words
  write_framed p v ok = record_framed (Write p v) p _ (leb-false _ _ ok.0) refl (place_only _ _ _)

  pub swap_framed : (p : ℕ) → AllClear (swap_tests s p) → Framed publishes (Swap p) s.words (swap s p).after.words
  swap_framed p ok = head_framed (Swap p) p _ current_at (publisher s p).held (leb-false _ _ ok.0) (omega arith) (omega arith) refl refl (ap (λ (own : Publisher). own.walk))

  pub sync_framed : (vs : Versions) (p : ℕ) → AllClear (sync_tests vs s p) → Framed publishes (Sync p) s.words (sync vs s p).after.words
  sync_framed vs p ok = record_framed (Sync p) p _ (leb-false _ _ ok.0) refl (ap (λ (own : Publisher). own.held))

  pub raise_framed : (vs : Versions) (p : ℕ) → p < publishers s.words → Framed publishes (Raise p) s.words (raise vs s p).after.words
  raise_framed vs p lt = raise_split (λ (o : Outcome). Framed publishes (Raise p) s.words o.after.words) vs s p
      (λ e. head_framed (Raise p) p _ version_at (publisher s p).walk.mark lt (omega arith) (omega arith) refl refl (place_only _ _ _))
      (record_framed (Raise p) p _ lt refl (place_only _ _ _))

  pub walk_framed : (p b : ℕ) (result : WalkResult) → p < publishers s.words → result.walk.mark ≡ (publisher s p).walk.mark → Framed publishes (Walk p b) s.words (walk s p result).after.words
  walk_framed p b result lt same-mark = record_framed (Walk p b) p _ lt refl (λ e. (ap (λ (own : Publisher). own.held) e, ap (λ (own : Publisher). own.walk.mark) e ∙ same-mark))

  pub release_framed : (p : ℕ) → AllClear (release_tests s p) → Framed publishes (Release p) s.words (release s p).after.words
  release_framed p ok = head_framed (Release p) p _ releases_at (one_more s) (leb-false _ _ ok.0) (omega arith) (omega arith) refl refl (place_only _ _ _)

-- A WALK leaves its publisher's record with the result of its looks.
pub walk_record : (K : DamageRules) (s : State) → Undamaged K s → (p : ℕ) → p < publishers s.words → (result : WalkResult) → publisher (walk s p result).after p ≡ walked (publisher s p) result
walk_record K s f p lt result = publisher_written (publisher_moves f p (walked (publisher s p) result) lt)
