-- The damage test as facts, to and from its rows. Assumes nothing.
use Rattle.std.specs.Prelude.{ℕ, ◌*◌, ◌<◌, ◌≤◌, ◌≡◌, refl, true, false, not, ◌||◌, List, ℤ, length, replicate, leb, ltb, eqb}
use Rattle.std.proofs.Common.{arith, eqb-true, eq-eqb, ne_eqb, leb-true, leb-false, le-leb, ltb-false, le-ltb}
use Rattle.std.proofs.lemmas.Bool.{eqb-false, not-true, lt-leb, not-false}
use Rattle.base.specs.Rows.{any_true, outside}
use Rattle.base.specs.RowLaws.{and_false, and_not, or_false, or_left, or_right, neither, negated, within, not_outside, all_false, none_true, none_below, no_below}
use Rattle.calls.specs.Numbers.{readers_max, publishers_max, slots_min, slots_max, table_length, place_idle, place_claimed, place_synchronising}
use Rattle.layout.specs.declared.Publisher.{Publisher}
use Rattle.layout.specs.Layout.{words_length, kind_word, readers, publishers, slots, current, version}
use Rattle.statement.specs.Machine.{State, state}
use Rattle.publication_law.specs.Steps.{Versions, reader, publisher}
use Rattle.publication_law.specs.Table.{Table, damaged}
use Rattle.publication_law.specs.Damage.{DamageRules, head_rows, publisher_rows, first_readers_damaged, first_publishers_damaged, shared_damage, readers_are_damaged, publishers_are_damaged}

pub record UndamagedHead (K : DamageRules) (s : State) : Type 0 where
  pub long : length s.words ≡ words_length
  pub kind_is : kind_word s.words ≡ K.number
  pub readers_low : 1 ≤ readers s.words
  pub readers_high : readers s.words ≤ readers_max
  pub publishers_low : 1 ≤ publishers s.words
  pub publishers_high : publishers s.words ≤ publishers_max
  pub slots_low : slots_min ≤ slots s.words
  pub slots_high : slots s.words ≤ slots_max
  pub entries_are : length s.entries ≡ slots s.words * table_length
  pub current_below : current s.words < slots s.words
  pub version_fits : K.versions.too_large (version s.words) ≡ false

pub record Undamaged (K : DamageRules) (s : State) : Type 0 where
  pub head : UndamagedHead K s
  pub readers_undamaged : (r : ℕ) → r < readers s.words → K.reader_damaged (readers s.words) (slots s.words) (reader s r) ≡ false
  pub publishers_undamaged : (p : ℕ) → p < publishers s.words → K.publisher_damaged (readers s.words) (slots s.words) (publisher s p) ≡ false

-- Readers and publishers of the store have records.
pub reader_below : (K : DamageRules) (s : State) → Undamaged K s → (r : ℕ) → r < readers s.words → r < readers_max
reader_below K s f r l = omega (arith, f.head.readers_high)

pub publisher_below : (K : DamageRules) (s : State) → Undamaged K s → (p : ℕ) → p < publishers s.words → p < publishers_max
publisher_below K s f p l = omega (arith, f.head.publishers_high)

pub head_of : (K : DamageRules) (s : State) → any_true (head_rows K s) ≡ false → UndamagedHead K s
head_of K s e =
    let f = all_false (head_rows K s) e in
    let rs = within 1 readers_max (readers s.words) f.1.1.0 in
    let ps = within 1 publishers_max (publishers s.words) f.1.1.1.0 in
    let ss = within slots_min slots_max (slots s.words) f.1.1.1.1.0 in
    record {
      long = eqb-true _ _ (not-false _ f.0);
      kind_is = eqb-true _ _ (not-false _ f.1.0);
      readers_low = rs.0;
      readers_high = rs.1;
      publishers_low = ps.0;
      publishers_high = ps.1;
      slots_low = ss.0;
      slots_high = ss.1;
      entries_are = eqb-true _ _ (not-false _ f.1.1.1.1.1.0);
      current_below = leb-false _ _ f.1.1.1.1.1.1.0;
      version_fits = f.1.1.1.1.1.1.1.0;
    }

pub undamaged_of : (K : DamageRules) (s : State) → shared_damage K s ≡ false → Undamaged K s
undamaged_of K s e =
    let publishers-ok = or_false (any_true (head_rows K s) || first_readers_damaged K s) (first_publishers_damaged K s) e in
    let readers-ok = or_false (any_true (head_rows K s)) (first_readers_damaged K s) publishers-ok.0 in
    record {
      head = head_of K s readers-ok.0;
      readers_undamaged = λ r l. none_below (λ r. K.reader_damaged (readers s.words) (slots s.words) (reader s r)) (readers s.words) r readers-ok.1 l;
      publishers_undamaged = λ p l. none_below (λ p. K.publisher_damaged (readers s.words) (slots s.words) (publisher s p)) (publishers s.words) p publishers-ok.1 l;
    }

pub undamaged_to : (K : DamageRules) (s : State) → Undamaged K s → shared_damage K s ≡ false
undamaged_to K s f = let head = f.head in
    neither (any_true (head_rows K s) || first_readers_damaged K s) (first_publishers_damaged K s)
    (neither (any_true (head_rows K s)) (first_readers_damaged K s)
    (none_true (head_rows K s) (
      negated _ (eq-eqb _ _ head.long),
      (
        negated _ (eq-eqb _ _ head.kind_is),
        (
          not_outside 1 readers_max _ head.readers_low head.readers_high,
          (
            not_outside 1 publishers_max _ head.publishers_low head.publishers_high,
            (
              not_outside slots_min slots_max _ head.slots_low head.slots_high,
              (
                negated _ (eq-eqb _ _ head.entries_are),
                (lt-leb _ _ head.current_below, (head.version_fits, tt)),
              ),
            ),
          ),
        ),
      ),
    ))
    (no_below (λ r. K.reader_damaged (readers s.words) (slots s.words) (reader s r)) (readers s.words) f.readers_undamaged))
    (no_below (λ p. K.publisher_damaged (readers s.words) (slots s.words) (publisher s p)) (publishers s.words) f.publishers_undamaged)

-- The damage test is that of the head, of the readers and of the publishers, each by itself.
module _ (K : DamageRules) (s : State) where
  pub readers_test_false : Undamaged K s → readers_are_damaged K s ≡ false
  readers_test_false f = let head = f.head in neither (not (eqb (length s.words) words_length) || outside 1 readers_max (readers s.words)) (first_readers_damaged K s)
      (neither (not (eqb (length s.words) words_length)) (outside 1 readers_max (readers s.words)) (negated _ (eq-eqb _ _ head.long)) (not_outside 1 readers_max _ head.readers_low head.readers_high))
      (no_below (λ r. K.reader_damaged (readers s.words) (slots s.words) (reader s r)) (readers s.words) f.readers_undamaged)

  pub publishers_test_false : Undamaged K s → publishers_are_damaged K s ≡ false
  publishers_test_false f = let head = f.head in neither (not (eqb (length s.words) words_length) || outside 1 publishers_max (publishers s.words)) (first_publishers_damaged K s)
      (neither (not (eqb (length s.words) words_length)) (outside 1 publishers_max (publishers s.words)) (negated _ (eq-eqb _ _ head.long)) (not_outside 1 publishers_max _ head.publishers_low head.publishers_high))
      (no_below (λ p. K.publisher_damaged (readers s.words) (slots s.words) (publisher s p)) (publishers s.words) f.publishers_undamaged)

  pub tests_shared : any_true (head_rows K s) ≡ false → readers_are_damaged K s ≡ false → publishers_are_damaged K s ≡ false → shared_damage K s ≡ false
  tests_shared head_ok readers-ok publishers-ok = neither (any_true (head_rows K s) || first_readers_damaged K s) (first_publishers_damaged K s)
      (neither (any_true (head_rows K s)) (first_readers_damaged K s) head_ok (or_false (not (eqb (length s.words) words_length) || outside 1 readers_max (readers s.words)) (first_readers_damaged K s) readers-ok).1)
      (or_false (not (eqb (length s.words) words_length) || outside 1 publishers_max (publishers s.words)) (first_publishers_damaged K s) publishers-ok).1

-- The rows of a publisher that the kinds share.
pub record UndamagedPublisher (vs : Versions) (slots : ℕ) (y : Publisher) : Type 0 where
  pub held_below : place_claimed ≤ y.place → y.held < slots
  pub mark_fits : place_synchronising ≤ y.place → vs.wrong_mark y.walk.mark ≡ false
  pub waits_low : place_synchronising ≤ y.place → y.walk.waits ≤ y.walk.looks

pub publisher_of_lem : (vs : Versions) (slots : ℕ) (y : Publisher) → any_true (publisher_rows vs slots y) ≡ false → UndamagedPublisher vs slots y
publisher_of_lem vs slots y e = let f = all_false (publisher_rows vs slots y) e in record {
  held_below = λ l. leb-false _ _ (and_false (not (eqb y.place place_idle)) (leb slots y.held) f.0 (rw (ne_eqb y.place 0 (λ eq. omega arith)) refl));
  mark_fits = λ l. and_false (leb place_synchronising y.place) (vs.wrong_mark y.walk.mark) f.1.0 (le-leb _ _ l);
  waits_low = λ l. ltb-false _ _ (and_false (leb place_synchronising y.place) (ltb y.walk.looks y.walk.waits) f.1.1.0 (le-leb _ _ l));
}

pub publisher_to_lem : (vs : Versions) (slots : ℕ) (y : Publisher) → UndamagedPublisher vs slots y → any_true (publisher_rows vs slots y) ≡ false
publisher_to_lem vs slots y f = none_true (publisher_rows vs slots y) (
  and_not (not (eqb y.place place_idle)) (leb slots y.held) (λ e. lt-leb slots y.held (f.held_below (some_place y.place e))),
  (
    and_not (leb place_synchronising y.place) (vs.wrong_mark y.walk.mark) (λ e. f.mark_fits (leb-true 35 y.place e)),
    (and_not (leb place_synchronising y.place) (ltb y.walk.looks y.walk.waits) (λ e. le-ltb _ _ (f.waits_low (leb-true 35 y.place e))), tt),
  ),
)
  where
    some_place : (n : ℕ) → not (eqb n 0) ≡ true → 1 ≤ n
    some_place n e = let unequal = eqb-false n 0 (not-true (eqb n 0) e) in omega arith

-- A store with every number 0 is damaged.
pub zero_damaged : (T : Table) (es : List ℤ) → damaged T (state (replicate words_length 0) es) ≡ true
unfolding damaged
zero_damaged T es = or_left (shared_damage T.damage (state (replicate words_length 0) es)) (T.further (state (replicate words_length 0) es))
    (or_left (any_true (head_rows T.damage (state (replicate words_length 0) es)) || first_readers_damaged T.damage (state (replicate words_length 0) es)) (first_publishers_damaged T.damage (state (replicate words_length 0) es))
    (or_left (any_true (head_rows T.damage (state (replicate words_length 0) es))) (first_readers_damaged T.damage (state (replicate words_length 0) es)) (or_right (not (eqb 0 T.damage.number)) true refl)))
