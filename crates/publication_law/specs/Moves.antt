-- A step writes one record, and perhaps one number of the head: what the words then hold, by the laws of the layout. Assumes nothing.
use Rattle.std.specs.Prelude.{ℕ, ◌<◌, ◌≤◌, ◌≡◌, refl, Bool, true, false, List, get_or, set, length, eqb}
use Rattle.std.proofs.Common.{arith, sym, ap, ◌∙◌, length-set, get_or-set_same, get_or-set_other, eqb-true}
use Rattle.std.proofs.Math.Path.{fun_ext}
use Rattle.std.proofs.lemmas.Bool.{eqb-false}
use Rattle.base.specs.Base.{choose, upd}
use Rattle.base.specs.RowLaws.{same}
use Rattle.calls.specs.Numbers.{readers_max, publishers_max}
use Rattle.layout.specs.declared.Reader.{Reader}
use Rattle.layout.specs.declared.Publisher.{Publisher}
use Rattle.layout.specs.Layout.{head_word_count, indicator, current_at, version_at, releases_at, words_length, readers, publishers, current, version, releases, reader_at, publisher_at, retirement_at, retired_at, with_reader, with_publisher}
use Rattle.layout.specs.Laws.{length_reader, length_publisher, head_reader, head_publisher, reader_head, publisher_head, reader_publisher, publisher_reader, reader_put, publisher_put, retirement_head, retired_head, retirement_reader, retired_reader, retirement_publisher, retired_publisher, indicator_by}
use Rattle.statement.specs.Machine.{State}
use Rattle.statement.specs.Frame.{One}
use Rattle.publication_law.specs.Damage.{DamageRules}
use Rattle.publication_law.specs.DamageLaws.{Undamaged, reader_below, publisher_below}

-- Where the whole head stays, and where number j of it is stored besides: at most one number of the head moved.
pub none_moved : (w w' : List ℕ) → ((j : ℕ) → j < head_word_count → get_or w' j 0 ≡ get_or w j 0) → One w w'
none_moved w w' stays = (0, λ j l ne. stays j l)

pub one_moved : (w w' : List ℕ) (j n : ℕ) → ((j' : ℕ) → j' < head_word_count → get_or w' j' 0 ≡ get_or w j' 0) → One w (set w' j n)
one_moved w w' j n stays = (j, λ j' l ne. get_or-set_other w' j j' n 0 ne ∙ stays j' l)

pub upd_field : {A B : Type 0} (f : A → B) (after before : ℕ → A) (i : ℕ) (value : A) → after ≡ upd before i value → ◌≡◌ {A = ℕ → B} (λ j. f (after j)) (upd (λ j. f (before j)) i (f value))
upd_field f after before i value e = fun_ext (λ j. ap (λ (all : ℕ → _). f (all j)) e ∙ go (eqb j i) j)
  where
    go : (b : Bool) (j : ℕ) → f (choose b value (before j)) ≡ choose b (f value) (f (before j))
    go true j = refl
    go false j = refl

-- A value replaced by itself.
pub upd_same : {A : Type 0} (f : ℕ → A) (i : ℕ) → upd f i (f i) ≡ f
upd_same f i = fun_ext (λ j. go j (eqb j i) refl)
  where
    go : (j : ℕ) (b : Bool) → eqb j i ≡ b → choose b (f i) (f j) ≡ f j
    go j true e = ap f (sym (eqb-true j i e))
    go j false e = refl

-- w' is w with publisher p replaced by y, and this current slot, version and number of releases.
pub record MovesPublisher (w w' : List ℕ) (p : ℕ) (y : Publisher) (cur ver rel : ℕ) : Type 0 where
  pub long : length w' ≡ length w
  pub head : (j : ℕ) → j < current_at → get_or w' j 0 ≡ get_or w j 0
  pub indicators_stay : indicator w' ≡ indicator w
  pub current_is : current w' ≡ cur
  pub version_is : version w' ≡ ver
  pub releases_is : releases w' ≡ rel
  pub readers_stay : reader_at w' ≡ reader_at w
  pub publishers_are : publisher_at w' ≡ upd (publisher_at w) p y
  pub retirements_stay : retirement_at w' ≡ retirement_at w
  pub retired_stay : retired_at w' ≡ retired_at w

-- The record that was written is the one that is read.
pub publisher_written : {w w' : List ℕ} {p : ℕ} {y : Publisher} {cur ver rel : ℕ} → MovesPublisher w w' p y cur ver rel → publisher_at w' p ≡ y
publisher_written {p = p} m = ap (λ (f : ℕ → Publisher). f p) m.publishers_are ∙ rw (same p) refl

pub publisher_field : {B : Type 0} (f : Publisher → B) (w w' : List ℕ) (p : ℕ) (y : Publisher) (cur ver rel : ℕ) → MovesPublisher w w' p y cur ver rel
    → ◌≡◌ {A = ℕ → B} (λ j. f (publisher_at w' j)) (upd (λ j. f (publisher_at w j)) p (f y))
publisher_field f w w' p y cur ver rel m = upd_field f (publisher_at w') (publisher_at w) p y m.publishers_are

moves_publisher : (w : List ℕ) (p : ℕ) (y : Publisher) → length w ≡ words_length → p < publishers_max
    → MovesPublisher w (with_publisher w p y) p y (current w) (version w) (releases w)
moves_publisher w p y len lt = record {
  long = length_publisher w p y;
  head = λ j l. head_publisher w p y j (omega arith);
  indicators_stay = indicator_by (with_publisher w p y) w (λ j low high. head_publisher w p y j high);
  current_is = head_publisher w p y current_at (omega arith);
  version_is = head_publisher w p y version_at (omega arith);
  releases_is = head_publisher w p y releases_at (omega arith);
  readers_stay = reader_publisher w p y;
  publishers_are = publisher_put (λ (y' : Publisher). y') w p y len lt;
  retirements_stay = retirement_publisher w p y lt;
  retired_stay = retired_publisher w p y lt;
}

-- .. and one of current slot, version and releases replaced besides.
moves_head : (w w' : List ℕ) (p : ℕ) (y : Publisher) (cur ver rel : ℕ) → MovesPublisher w w' p y cur ver rel → length w ≡ words_length → (j n : ℕ) → current_at ≤ j → j ≤ releases_at
    → MovesPublisher w (set w' j n) p y (choose (eqb current_at j) n cur) (choose (eqb version_at j) n ver) (choose (eqb releases_at j) n rel)
moves_head w w' p y cur ver rel m len j n low high = record {
  long = length-set w' j n ∙ m.long;
  head = λ j' l. get_or-set_other w' j j' n 0 (λ eq. omega arith) ∙ m.head j' l;
  indicators_stay = indicator_by (set w' j n) w' (λ j' from to. get_or-set_other w' j j' n 0 (λ eq. omega arith)) ∙ m.indicators_stay;
  current_is = read current_at cur m.current_is;
  version_is = read version_at ver m.version_is;
  releases_is = read releases_at rel m.releases_is;
  readers_stay = reader_head w' j n (omega arith) ∙ m.readers_stay;
  publishers_are = publisher_head w' j n (omega arith) ∙ m.publishers_are;
  retirements_stay = retirement_head w' j n (omega arith) ∙ m.retirements_stay;
  retired_stay = retired_head w' j n (omega arith) ∙ m.retired_stay;
}
  where
    read : (j' n' : ℕ) → get_or w' j' 0 ≡ n' → get_or (set w' j n) j' 0 ≡ choose (eqb j' j) n n'
    read j' n' e = go (eqb j' j) refl
      where
        go : (b : Bool) → eqb j' j ≡ b → get_or (set w' j n) j' 0 ≡ choose b n n'
        go true d = rw (eqb-true j' j d) (get_or-set_same w' j n 0 (omega (arith, m.long)))
        go false d = get_or-set_other w' j j' n 0 (eqb-false j' j d) ∙ e

-- w' is w with reader r replaced by x; one of the indicators may have moved, which is a kind's own.
pub record MovesReader (w w' : List ℕ) (r : ℕ) (x : Reader) : Type 0 where
  pub long : length w' ≡ length w
  pub head : (j : ℕ) → j ≤ releases_at → get_or w' j 0 ≡ get_or w j 0
  pub one : One w w'
  pub readers_are : reader_at w' ≡ upd (reader_at w) r x
  pub publishers_stay : publisher_at w' ≡ publisher_at w
  pub retirements_stay : retirement_at w' ≡ retirement_at w
  pub retired_stay : retired_at w' ≡ retired_at w

pub reader_written : {w w' : List ℕ} {r : ℕ} {x : Reader} → MovesReader w w' r x → reader_at w' r ≡ x
reader_written {r = r} m = ap (λ (f : ℕ → Reader). f r) m.readers_are ∙ rw (same r) refl

pub reader_field : {B : Type 0} (f : Reader → B) (w w' : List ℕ) (r : ℕ) (x : Reader) → MovesReader w w' r x
    → ◌≡◌ {A = ℕ → B} (λ j. f (reader_at w' j)) (upd (λ j. f (reader_at w j)) r (f x))
reader_field f w w' r x m = upd_field f (reader_at w') (reader_at w) r x m.readers_are

moves_reader : (w : List ℕ) (r : ℕ) (x : Reader) → length w ≡ words_length → r < readers_max → MovesReader w (with_reader w r x) r x
moves_reader w r x len lt = record {
  long = length_reader w r x;
  head = λ j l. head_reader w r x j (omega arith);
  one = none_moved w (with_reader w r x) (head_reader w r x);
  readers_are = reader_put (λ (x' : Reader). x') w r x len lt;
  publishers_stay = publisher_reader w r x lt;
  retirements_stay = retirement_reader w r x lt;
  retired_stay = retired_reader w r x lt;
}

-- .. and word j of the indicators replaced besides.
moves_indicator : (w : List ℕ) (r : ℕ) (x : Reader) → MovesReader w (with_reader w r x) r x → (j n : ℕ) → releases_at < j → j < head_word_count → MovesReader w (set (with_reader w r x) j n) r x
moves_indicator w r x m j n low high = record {
  long = length-set (with_reader w r x) j n ∙ m.long;
  head = λ j' l. get_or-set_other (with_reader w r x) j j' n 0 (λ eq. omega arith) ∙ m.head j' l;
  one = one_moved w (with_reader w r x) j n (head_reader w r x);
  readers_are = reader_head (with_reader w r x) j n high ∙ m.readers_are;
  publishers_stay = publisher_head (with_reader w r x) j n high ∙ m.publishers_stay;
  retirements_stay = retirement_head (with_reader w r x) j n high ∙ m.retirements_stay;
  retired_stay = retired_head (with_reader w r x) j n high ∙ m.retired_stay;
}

-- Of a store that is fine: each of its publishers and readers has a record.
module _ {K : DamageRules} {s : State} (f : Undamaged K s) where
  pub publisher_moves : (p : ℕ) (y : Publisher) → p < publishers s.words → MovesPublisher s.words (with_publisher s.words p y) p y (current s.words) (version s.words) (releases s.words)
  publisher_moves p y lt = moves_publisher s.words p y f.head.long (publisher_below K s f p lt)

  pub publisher_moves_head : (p : ℕ) (y : Publisher) → p < publishers s.words → (j n : ℕ) → current_at ≤ j → j ≤ releases_at
      → MovesPublisher s.words (set (with_publisher s.words p y) j n) p y (choose (eqb current_at j) n (current s.words)) (choose (eqb version_at j) n (version s.words)) (choose (eqb releases_at j) n (releases s.words))
  publisher_moves_head p y lt j n low high = moves_head s.words (with_publisher s.words p y) p y _ _ _ (publisher_moves p y lt) f.head.long j n low high

  pub reader_moves : (r : ℕ) (x : Reader) → r < readers s.words → MovesReader s.words (with_reader s.words r x) r x
  reader_moves r x lt = moves_reader s.words r x f.head.long (reader_below K s f r lt)

  pub reader_moves_indicator : (r : ℕ) (x : Reader) → r < readers s.words → (j n : ℕ) → releases_at < j → j < head_word_count → MovesReader s.words (set (with_reader s.words r x) j n) r x
  reader_moves_indicator r x lt j n low high = moves_indicator s.words r x (reader_moves r x lt) j n low high
