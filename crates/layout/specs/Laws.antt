-- The laws of the layout, by which the crates above reason about records; only worked examples compute through the views.
-- Each kind of record has a region of the words; its laws are those of any region (Regions.antt). Assumes nothing.
use Rattle.std.specs.Prelude.{ℕ, zero, suc, ◌+◌, ◌*◌, ◌<◌, ◌≤◌, Bool, List, get_or, set, length, replicate, eqb}
use Rattle.std.proofs.Common.{arith, add-one, sym, ap, ◌∙◌, inl, inr, length-set, get_or-set_same, get_or-set_other}
use Rattle.std.proofs.Math.Path.{◌≡◌, refl, fun_ext}
use Rattle.std.proofs.Math.Bool.{true, false}
use Rattle.std.proofs.lemmas.List.{length-replicate, set-get_or}
use Rattle.std.proofs.Math.Dec.{ltb}
use borrow.Author.Tests.{eqb-true, eqb-false, ne_eqb, ltb-true, ltb-false, lt-ltb, le-ltb}
use Rattle.base.specs.Base.{choose, upd}
use Rattle.layout.specs.declared.Reader.{Reader}
use Rattle.layout.specs.declared.Publisher.{Publisher}
use Rattle.layout.specs.declared.Retirement.{Retirement}
use Rattle.layout.specs.declared.Retired.{Retired}
use Rattle.calls.specs.Numbers.{readers_max, publishers_max, deferred_max}
use Rattle.layout.specs.Records.{◌place≔◌, ◌first≔◌, ◌second≔◌, ◌published≔◌, ◌picked≔◌, ◌at_place◌, ◌held≔◌, ◌walk≔◌, ◌mark≔◌, ◌next≔◌, ◌looks≔◌, ◌waits≔◌, ◌step≔◌, ◌count≔◌}
use Rattle.layout.specs.Layout.{record_at, with_record, indicators_at, indicator_count, indicator, with_indicator, kind_at, readers_at, publishers_at, slots_at, version_at, head_word_count, reader_word_count, first_publisher, first_retirement, words_length, reader_words, publisher_words, retirement_words, blank_reader, no_reader, no_publisher, no_retirement, no_retired, put_words, reader_region, publisher_region, retirement_region, retired_region, reader_at, publisher_at, retirement_at, retired_at, with_reader, with_publisher, with_retirement, with_retired, with_readers, fresh_words}
use Rattle.layout.specs.Regions.{Exact, length_record, record_leaves, region_by, region_zero, region_set, record_put, record_back, regions_apart}

-- Readers and publishers are read from their words, each from its own.
readers_exact : Exact reader_region
readers_exact = record { read = λ x. refl; written = λ f. refl }

publishers_exact : Exact publisher_region
publishers_exact = record { read = λ x. refl; written = λ f. refl }

retirements_exact : Exact retirement_region
retirements_exact = record { read = λ x. refl; written = λ f. refl }

retired_exact : (p : ℕ) → Exact (retired_region p)
retired_exact p = record { read = λ x. refl; written = λ f. refl }

-- To set a number of a record is to store one of its words.
pub reader_set : (x : Reader) (n : ℕ)
    → (reader_words (x place≔ n) ≡ set (reader_words x) 0 n)
    × (reader_words (x first≔ n) ≡ set (reader_words x) 1 n)
    × (reader_words (x second≔ n) ≡ set (reader_words x) 2 n)
    × (reader_words (x published≔ n) ≡ set (reader_words x) 3 n)
    × (reader_words (x picked≔ n) ≡ set (reader_words x) 4 n)
reader_set x n = (refl, refl, refl, refl, refl)

pub publisher_set : (y : Publisher) (n : ℕ)
    → (publisher_words (y at_place n) ≡ set (publisher_words y) 0 n)
    × (publisher_words (y held≔ n) ≡ set (publisher_words y) 1 n)
    × (publisher_words (y walk≔ (y.walk mark≔ n)) ≡ set (publisher_words y) 2 n)
    × (publisher_words (y walk≔ (y.walk next≔ n)) ≡ set (publisher_words y) 3 n)
    × (publisher_words (y walk≔ (y.walk looks≔ n)) ≡ set (publisher_words y) 4 n)
    × (publisher_words (y walk≔ (y.walk waits≔ n)) ≡ set (publisher_words y) 5 n)
publisher_set y n = (refl, refl, refl, refl, refl, refl)

pub retirement_set : (t : Retirement) (n : ℕ) → (retirement_words (t step≔ n) ≡ set (retirement_words t) 0 n) × (retirement_words (t count≔ n) ≡ set (retirement_words t) 1 n)
retirement_set t n = (refl, refl)

-- Lengths.
pub length_reader : (w : List ℕ) (r : ℕ) (x : Reader) → length (with_reader w r x) ≡ length w
unfolding with_reader
length_reader = length_record readers_exact

pub length_publisher : (w : List ℕ) (p : ℕ) (y : Publisher) → length (with_publisher w p y) ≡ length w
unfolding with_publisher
length_publisher = length_record publishers_exact

-- A record written leaves the head.
pub head_reader : (w : List ℕ) (r : ℕ) (x : Reader) (j : ℕ) → j < head_word_count → get_or (with_reader w r x) j 0 ≡ get_or w j 0
unfolding with_reader
head_reader w r x j lt = record_leaves readers_exact w r x j (inl (omega arith))

pub head_publisher : (w : List ℕ) (p : ℕ) (y : Publisher) (j : ℕ) → j < head_word_count → get_or (with_publisher w p y) j 0 ≡ get_or w j 0
unfolding with_publisher
head_publisher w p y j lt = record_leaves publishers_exact w p y j (inl (omega arith))

-- The head written leaves the records.
pub reader_head : (w : List ℕ) (j n : ℕ) → j < head_word_count → reader_at (set w j n) ≡ reader_at w
unfolding reader_at
reader_head = region_set readers_exact

pub publisher_head : (w : List ℕ) (j n : ℕ) → j < head_word_count → publisher_at (set w j n) ≡ publisher_at w
unfolding publisher_at
publisher_head w j n lt = region_set publishers_exact w j n (omega arith)

-- A record of one region written leaves those of the other.
pub reader_publisher : (w : List ℕ) (p : ℕ) (y : Publisher) → reader_at (with_publisher w p y) ≡ reader_at w
unfolding reader_at with_publisher
reader_publisher w p y = regions_apart publishers_exact readers_exact w p y (inr (omega arith))

pub publisher_reader : (w : List ℕ) (r : ℕ) (x : Reader) → r < readers_max → publisher_at (with_reader w r x) ≡ publisher_at w
unfolding publisher_at with_reader
publisher_reader w r x lt = regions_apart readers_exact publishers_exact w r x (inl (omega arith))

-- Retirements and retired slots, where their words agree: they lie behind the publishers.
pub retirement_by : (w' w : List ℕ) → ((j : ℕ) → first_retirement ≤ j → get_or w' j 0 ≡ get_or w j 0) → retirement_at w' ≡ retirement_at w
unfolding retirement_at
retirement_by w' w e = region_by retirements_exact w' w (λ m low high. e m low)

pub retired_by : (w' w : List ℕ) → ((j : ℕ) → first_retirement ≤ j → get_or w' j 0 ≡ get_or w j 0) → retired_at w' ≡ retired_at w
unfolding retired_at
retired_by w' w e = fun_ext (λ p. region_by (retired_exact p) w' w (λ m low high. e m (omega arith)))

-- What is written before them leaves them: a number of the head, a reader, a publisher.
behind_head : (w : List ℕ) (j n : ℕ) → j < head_word_count → (m : ℕ) → first_retirement ≤ m → get_or (set w j n) m 0 ≡ get_or w m 0
behind_head w j n lt m low = get_or-set_other w j m n 0 (λ eq. omega arith)

behind_reader : (w : List ℕ) (r : ℕ) (x : Reader) → r < readers_max → (m : ℕ) → first_retirement ≤ m → get_or (with_reader w r x) m 0 ≡ get_or w m 0
unfolding with_reader
behind_reader w r x lt m low = record_leaves readers_exact w r x m (inr (omega arith))

behind_publisher : (w : List ℕ) (p : ℕ) (y : Publisher) → p < publishers_max → (m : ℕ) → first_retirement ≤ m → get_or (with_publisher w p y) m 0 ≡ get_or w m 0
unfolding with_publisher
behind_publisher w p y lt m low = record_leaves publishers_exact w p y m (inr (omega arith))

pub retirement_head : (w : List ℕ) (j n : ℕ) → j < head_word_count → retirement_at (set w j n) ≡ retirement_at w
retirement_head w j n lt = retirement_by (set w j n) w (behind_head w j n lt)

pub retired_head : (w : List ℕ) (j n : ℕ) → j < head_word_count → retired_at (set w j n) ≡ retired_at w
retired_head w j n lt = retired_by (set w j n) w (behind_head w j n lt)

pub retirement_reader : (w : List ℕ) (r : ℕ) (x : Reader) → r < readers_max → retirement_at (with_reader w r x) ≡ retirement_at w
retirement_reader w r x lt = retirement_by (with_reader w r x) w (behind_reader w r x lt)

pub retired_reader : (w : List ℕ) (r : ℕ) (x : Reader) → r < readers_max → retired_at (with_reader w r x) ≡ retired_at w
retired_reader w r x lt = retired_by (with_reader w r x) w (behind_reader w r x lt)

pub retirement_publisher : (w : List ℕ) (p : ℕ) (y : Publisher) → p < publishers_max → retirement_at (with_publisher w p y) ≡ retirement_at w
retirement_publisher w p y lt = retirement_by (with_publisher w p y) w (behind_publisher w p y lt)

pub retired_publisher : (w : List ℕ) (p : ℕ) (y : Publisher) → p < publishers_max → retired_at (with_publisher w p y) ≡ retired_at w
retired_publisher w p y lt = retired_by (with_publisher w p y) w (behind_publisher w p y lt)

-- A record written is read there, and every other one stays.
pub reader_put : {B : Type 0} (f : Reader → B) (w : List ℕ) (r : ℕ) (x : Reader) → length w ≡ words_length → r < readers_max
    → (λ r'. f (reader_at (with_reader w r x) r')) ≡ upd (λ r'. f (reader_at w r')) r (f x)
unfolding reader_at with_reader
reader_put f w r x len lt = record_put readers_exact f w r x (omega arith) lt

pub publisher_put : {B : Type 0} (f : Publisher → B) (w : List ℕ) (p : ℕ) (y : Publisher) → length w ≡ words_length → p < publishers_max
    → (λ q. f (publisher_at (with_publisher w p y) q)) ≡ upd (λ q. f (publisher_at w q)) p (f y)
unfolding publisher_at with_publisher
publisher_put f w p y len lt = record_put publishers_exact f w p y (omega arith) lt

pub retirement_put : {B : Type 0} (f : Retirement → B) (w : List ℕ) (p : ℕ) (t : Retirement) → length w ≡ words_length → p < publishers_max
    → (λ q. f (retirement_at (with_retirement w p t) q)) ≡ upd (λ q. f (retirement_at w q)) p (f t)
unfolding retirement_at with_retirement
retirement_put f w p t len lt = record_put retirements_exact f w p t (omega arith) lt

pub retired_put : (w : List ℕ) (p i : ℕ) (d : Retired) → length w ≡ words_length → p < publishers_max → i < deferred_max → retired_at (with_retired w p i d) ≡ upd (retired_at w) p (upd (retired_at w p) i d)
unfolding retired_at with_retired
retired_put w p i d len lt room = fun_ext (λ q. go q (eqb q p) refl)
  where
    apart : (q : ℕ) → eqb q p ≡ false → (b : Bool) → ltb q p ≡ b → record_at (retired_region q) (with_record (retired_region p) w i d) ≡ record_at (retired_region q) w
    apart q ne true e = let l = ltb-true q p e in regions_apart (retired_exact p) (retired_exact q) w i d (inr (omega arith))
    apart q ne false e = let l = ltb-false q p e in let unequal = eqb-false q p ne in regions_apart (retired_exact p) (retired_exact q) w i d (inl (omega arith))

    go : (q : ℕ) (b : Bool) → eqb q p ≡ b → ◌≡◌ {A = ℕ → Retired} (record_at (retired_region q) (with_record (retired_region p) w i d)) (choose b (upd (record_at (retired_region p) w) i d) (record_at (retired_region q) w))
    go q true e = rw (eqb-true q p e) (record_put (retired_exact p) (λ (d' : Retired). d') w i d (omega arith) room)
    go q false e = apart q e (ltb q p) refl

-- What is written behind them leaves the head, the readers and the publishers; a retirement leaves the retired slots, and a retired slot the retirements.
pub length_retirement : (w : List ℕ) (p : ℕ) (t : Retirement) → length (with_retirement w p t) ≡ length w
unfolding with_retirement
length_retirement = length_record retirements_exact

pub length_retired : (w : List ℕ) (p i : ℕ) (d : Retired) → length (with_retired w p i d) ≡ length w
unfolding with_retired
length_retired w p = length_record (retired_exact p) w

before_retirement : (w : List ℕ) (p : ℕ) (t : Retirement) (j : ℕ) → j < first_retirement → get_or (with_retirement w p t) j 0 ≡ get_or w j 0
unfolding with_retirement
before_retirement w p t j lt = record_leaves retirements_exact w p t j (inl (omega arith))

before_retired : (w : List ℕ) (p i : ℕ) (d : Retired) (j : ℕ) → j < first_retirement → get_or (with_retired w p i d) j 0 ≡ get_or w j 0
unfolding with_retired
before_retired w p i d j lt = record_leaves (retired_exact p) w i d j (inl (omega arith))

pub head_retirement : (w : List ℕ) (p : ℕ) (t : Retirement) (j : ℕ) → j < head_word_count → get_or (with_retirement w p t) j 0 ≡ get_or w j 0
head_retirement w p t j lt = before_retirement w p t j (omega arith)

pub head_retired : (w : List ℕ) (p i : ℕ) (d : Retired) (j : ℕ) → j < head_word_count → get_or (with_retired w p i d) j 0 ≡ get_or w j 0
head_retired w p i d j lt = before_retired w p i d j (omega arith)

readers_by : (w' w : List ℕ) → ((j : ℕ) → j < first_retirement → get_or w' j 0 ≡ get_or w j 0) → reader_at w' ≡ reader_at w
unfolding reader_at
readers_by w' w e = region_by readers_exact w' w (λ m low high. e m (omega arith))

publishers_by : (w' w : List ℕ) → ((j : ℕ) → j < first_retirement → get_or w' j 0 ≡ get_or w j 0) → publisher_at w' ≡ publisher_at w
unfolding publisher_at
publishers_by w' w e = region_by publishers_exact w' w (λ m low high. e m (omega arith))

pub reader_retirement : (w : List ℕ) (p : ℕ) (t : Retirement) → reader_at (with_retirement w p t) ≡ reader_at w
reader_retirement w p t = readers_by (with_retirement w p t) w (before_retirement w p t)

pub publisher_retirement : (w : List ℕ) (p : ℕ) (t : Retirement) → publisher_at (with_retirement w p t) ≡ publisher_at w
publisher_retirement w p t = publishers_by (with_retirement w p t) w (before_retirement w p t)

pub reader_retired : (w : List ℕ) (p i : ℕ) (d : Retired) → reader_at (with_retired w p i d) ≡ reader_at w
reader_retired w p i d = readers_by (with_retired w p i d) w (before_retired w p i d)

pub publisher_retired : (w : List ℕ) (p i : ℕ) (d : Retired) → publisher_at (with_retired w p i d) ≡ publisher_at w
publisher_retired w p i d = publishers_by (with_retired w p i d) w (before_retired w p i d)

pub retired_retirement : (w : List ℕ) (p : ℕ) (t : Retirement) → p < publishers_max → retired_at (with_retirement w p t) ≡ retired_at w
unfolding retired_at with_retirement
retired_retirement w p t lt = fun_ext (λ q. regions_apart retirements_exact (retired_exact q) w p t (inl (omega arith)))

pub retirement_retired : (w : List ℕ) (p i : ℕ) (d : Retired) → retirement_at (with_retired w p i d) ≡ retirement_at w
unfolding retirement_at with_retired
retirement_retired w p i d = regions_apart (retired_exact p) retirements_exact w i d (inr (omega arith))

-- A record put back as it was read changes nothing.
pub publisher_back : (w : List ℕ) (p : ℕ) → p < publishers_max → with_publisher w p (publisher_at w p) ≡ w
unfolding with_publisher publisher_at
publisher_back = record_back publishers_exact

-- The indicators, where the head agrees; with a record replaced; and with one of them replaced.
pub indicator_by : (w' w : List ℕ) → ((j : ℕ) → indicators_at ≤ j → j < head_word_count → get_or w' j 0 ≡ get_or w j 0) → indicator w' ≡ indicator w
unfolding indicator
indicator_by w' w e = fun_ext (λ i. go i (ltb i indicator_count) refl)
  where
    go : (i : ℕ) (b : Bool) → ltb i indicator_count ≡ b → choose b (get_or w' (indicators_at + i) 0) 0 ≡ choose b (get_or w (indicators_at + i) 0) 0
    go i true d = let l = ltb-true i indicator_count d in e (indicators_at + i) (omega arith) (omega arith)
    go i false d = refl

pub indicator_reader : (w : List ℕ) (r : ℕ) (x : Reader) → indicator (with_reader w r x) ≡ indicator w
indicator_reader w r x = indicator_by (with_reader w r x) w (λ j low high. head_reader w r x j high)

pub indicator_put : (w : List ℕ) (i n : ℕ) → i < indicator_count → head_word_count ≤ length w → (i' : ℕ) → indicator (with_indicator w i n) i' ≡ choose (eqb i i') n (indicator w i')
unfolding indicator
indicator_put w i n low len i' = go (eqb i i') refl
  where
    other : (b : Bool) → eqb i i' ≡ false → choose b (get_or (set w (indicators_at + i) n) (indicators_at + i') 0) 0 ≡ choose b (get_or w (indicators_at + i') 0) 0
    other true d = get_or-set_other w (indicators_at + i) (indicators_at + i') n 0 (λ e. eqb-false i i' d (omega arith))
    other false d = refl

    go : (b : Bool) → eqb i i' ≡ b → choose (ltb i' indicator_count) (get_or (set w (indicators_at + i) n) (indicators_at + i') 0) 0 ≡ choose b n (choose (ltb i' indicator_count) (get_or w (indicators_at + i') 0) 0)
    go true d = rw (← eqb-true i i' d, lt-ltb i indicator_count low) (get_or-set_same w (indicators_at + i) n 0 (omega arith))
    go false d = other (ltb i' indicator_count) d

-- Words that are all 0.
zero_at : (n j : ℕ) → ◌≡◌ {A = ℕ} (get_or (replicate n 0) j 0) 0
zero_at zero j = refl
zero_at (suc n) zero = refl
zero_at (suc n) (suc j) = zero_at n j

-- Readers where their words agree, and where all words are 0.
reader_by : (w' w : List ℕ) → ((j : ℕ) → head_word_count ≤ j → j < first_publisher → get_or w' j 0 ≡ get_or w j 0) → reader_at w' ≡ reader_at w
unfolding reader_at
reader_by = region_by readers_exact

blank_reader_lem : (r : ℕ) → reader_at (replicate words_length 0) r ≡ no_reader
unfolding reader_at
blank_reader_lem = region_zero readers_exact (replicate words_length 0) (λ j low high. zero_at words_length j)

-- The words with each of the first n readers replaced: their length, what stands elsewhere, and what is read.
pub length_readers : (n : ℕ) (w : List ℕ) (x : Reader) → length (with_readers n w x) ≡ length w
unfolding with_readers
length_readers zero w x = refl
length_readers (suc n) w x = length_reader (with_readers n w x) n x ∙ length_readers n w x

readers_head : (n : ℕ) (w : List ℕ) (x : Reader) (j : ℕ) → j < head_word_count → get_or (with_readers n w x) j 0 ≡ get_or w j 0
unfolding with_readers
readers_head zero w x j lt = refl
readers_head (suc n) w x j lt = head_reader (with_readers n w x) n x j lt ∙ readers_head n w x j lt

readers_behind : (n : ℕ) (w : List ℕ) (x : Reader) (j : ℕ) → head_word_count + reader_word_count * n ≤ j → get_or (with_readers n w x) j 0 ≡ get_or w j 0
unfolding with_readers with_reader
readers_behind zero w x j le = refl
readers_behind (suc n) w x j le = record_leaves readers_exact (with_readers n w x) n x j (inr (omega arith)) ∙ readers_behind n w x j (omega arith)

readers_put : (n : ℕ) (w : List ℕ) (x : Reader) → length w ≡ words_length → n ≤ readers_max → (r : ℕ) → reader_at (with_readers n w x) r ≡ choose (ltb r n) x (reader_at w r)
unfolding with_readers
readers_put zero w x len le r = rw (le-ltb r 0 (omega arith)) refl
readers_put (suc n) w x len le r = at r (readers_put n w x len (omega arith) r)
  where
    at : (r : ℕ) → reader_at (with_readers n w x) r ≡ choose (ltb r n) x (reader_at w r) → reader_at (with_reader (with_readers n w x) n x) r ≡ choose (ltb r (suc n)) x (reader_at w r)
    at r e = ap (λ (f : ℕ → Reader). f r) (reader_put (λ (x' : Reader). x') (with_readers n w x) n x (length_readers n w x ∙ len) (omega arith)) ∙ go (eqb r n) refl (ltb r n) refl e
      where
        go : (a : Bool) → eqb r n ≡ a → (b : Bool) → ltb r n ≡ b → reader_at (with_readers n w x) r ≡ choose b x (reader_at w r) → choose a x (reader_at (with_readers n w x) r) ≡ choose (ltb r (suc n)) x (reader_at w r)
        go true d b f e = rw (lt-ltb r (suc n) (omega (arith, eqb-true r n d))) refl
        go false d true f e = rw (lt-ltb r (suc n) (omega (arith, ltb-true r n f))) e
        go false d false f e = rw (ltb_none r n d f) e
          where
            ltb_none : (r n : ℕ) → eqb r n ≡ false → ltb r n ≡ false → ltb r (suc n) ≡ false
            ltb_none r n d f = let ne = eqb-false r n d in let l = ltb-false r n f in le-ltb r (suc n) (omega arith)

-- w' is w with one word stored.
record Stored (w w' : List ℕ) (j n : ℕ) : Type 0 where
  long : length w' ≡ words_length
  at : (j' : ℕ) → get_or w' j' 0 ≡ choose (eqb j' j) n (get_or w j' 0)

stored : (w : List ℕ) (j n : ℕ) → j < words_length → length w ≡ words_length → Stored w (set w j n) j n
stored w j n lt len = record { long = length-set w j n ∙ len; at = λ j'. go j' (eqb j' j) refl }
  where
    go : (j' : ℕ) (b : Bool) → eqb j' j ≡ b → get_or (set w j n) j' 0 ≡ choose b n (get_or w j' 0)
    go j' true e = rw (eqb-true j' j e) (get_or-set_same w j n 0 (omega arith))
    go j' false e = get_or-set_other w j j' n 0 (eqb-false j' j e)

-- Fresh words: u0 has its readers, and then the head is stored, word by word.
module _ (number rs ps ss ver : ℕ) (x : Reader) where
  u0 : List ℕ
  u0 = with_readers readers_max (replicate words_length 0) x

  u1 : List ℕ
  u1 = set u0 kind_at number

  u2 : List ℕ
  u2 = set u1 readers_at rs

  u3 : List ℕ
  u3 = set u2 publishers_at ps

  u4 : List ℕ
  u4 = set u3 slots_at ss

  fresh_is : fresh_words number rs ps ss ver x ≡ set u4 version_at ver
  unfolding fresh_words u0 u1 u2 u3 u4
  fresh_is = refl

  u0_long : length u0 ≡ words_length
  unfolding u0
  u0_long = length_readers readers_max (replicate words_length 0) x

  u0_head : (j : ℕ) → j < head_word_count → get_or u0 j 0 ≡ 0
  unfolding u0
  u0_head j lt = readers_head readers_max (replicate words_length 0) x j lt ∙ zero_at words_length j

  u0_reader : (r : ℕ) → reader_at u0 r ≡ choose (ltb r readers_max) x no_reader
  unfolding u0
  u0_reader r = readers_put readers_max (replicate words_length 0) x (length-replicate {A = ℕ} words_length 0) (omega arith) r ∙ rw (blank_reader_lem r) refl

  u0_behind : (j : ℕ) → first_publisher ≤ j → get_or u0 j 0 ≡ 0
  unfolding u0
  u0_behind j le = readers_behind readers_max (replicate words_length 0) x j le ∙ zero_at words_length j

  u1_is : Stored u0 u1 kind_at number
  unfolding u1
  u1_is = stored u0 kind_at number (omega arith) u0_long

  u2_is : Stored u1 u2 readers_at rs
  unfolding u2
  u2_is = stored u1 readers_at rs (omega arith) u1_is.long

  u3_is : Stored u2 u3 publishers_at ps
  unfolding u3
  u3_is = stored u2 publishers_at ps (omega arith) u2_is.long

  u4_is : Stored u3 u4 slots_at ss
  unfolding u4
  u4_is = stored u3 slots_at ss (omega arith) u3_is.long

  u5_is : Stored u4 (fresh_words number rs ps ss ver x) version_at ver
  u5_is = rw fresh_is (stored u4 version_at ver (omega arith) u4_is.long)

  pub fresh_long : length (fresh_words number rs ps ss ver x) ≡ words_length
  fresh_long = u5_is.long

  -- Any word of fresh words, one of the head, and one behind the numbers that are given.
  fresh_at : (j : ℕ) → get_or (fresh_words number rs ps ss ver x) j 0 ≡ choose (eqb j version_at) ver (choose (eqb j slots_at) ss (choose (eqb j publishers_at) ps (choose (eqb j readers_at) rs (choose (eqb j kind_at) number (get_or u0 j 0)))))
  fresh_at j = rw (u5_is.at j, u4_is.at j, u3_is.at j, u2_is.at j, u1_is.at j) refl

  pub fresh_head : (j : ℕ) → j < head_word_count
      → get_or (fresh_words number rs ps ss ver x) j 0 ≡ choose (eqb j version_at) ver (choose (eqb j slots_at) ss (choose (eqb j publishers_at) ps (choose (eqb j readers_at) rs (choose (eqb j kind_at) number 0))))
  fresh_head j lt = rw (fresh_at j, u0_head j lt) refl

  fresh_behind : (j : ℕ) → version_at < j → get_or (fresh_words number rs ps ss ver x) j 0 ≡ get_or u0 j 0
  fresh_behind j lt = rw (fresh_at j, ne_eqb j version_at (λ eq. omega arith), ne_eqb j slots_at (λ eq. omega arith), ne_eqb j publishers_at (λ eq. omega arith), ne_eqb j readers_at (λ eq. omega arith), ne_eqb j kind_at (λ eq. omega arith)) refl

  pub fresh_reader_lem : (r : ℕ) → reader_at (fresh_words number rs ps ss ver x) r ≡ choose (ltb r readers_max) x no_reader
  fresh_reader_lem r = ap (λ (f : ℕ → Reader). f r) (reader_by (fresh_words number rs ps ss ver x) u0 (λ j low high. fresh_behind j (omega arith))) ∙ u0_reader r

  pub fresh_publisher : (p : ℕ) → publisher_at (fresh_words number rs ps ss ver x) p ≡ no_publisher
  unfolding publisher_at
  fresh_publisher = region_zero publishers_exact (fresh_words number rs ps ss ver x) (λ j low high. fresh_behind j (omega arith) ∙ u0_behind j low)

  pub fresh_retirement : (p : ℕ) → retirement_at (fresh_words number rs ps ss ver x) p ≡ no_retirement
  unfolding retirement_at
  fresh_retirement = region_zero retirements_exact (fresh_words number rs ps ss ver x) (λ j low high. fresh_behind j (omega arith) ∙ u0_behind j (omega arith))

  pub fresh_retired : (p i : ℕ) → retired_at (fresh_words number rs ps ss ver x) p i ≡ no_retired
  unfolding retired_at
  fresh_retired p = region_zero (retired_exact p) (fresh_words number rs ps ss ver x) (λ j low high. fresh_behind j (omega arith) ∙ u0_behind j (omega arith))

  pub fresh_indicator : (i : ℕ) → indicator (fresh_words number rs ps ss ver x) i ≡ 0
  unfolding indicator
  fresh_indicator i = go (ltb i indicator_count) refl
    where
      go : (b : Bool) → ltb i indicator_count ≡ b → ◌≡◌ {A = ℕ} (choose b (get_or (fresh_words number rs ps ss ver x) (indicators_at + i) 0) 0) 0
      go true d = let l = ltb-true i indicator_count d in fresh_behind (indicators_at + i) (omega arith) ∙ u0_head (indicators_at + i) (omega arith)
      go false d = refl

-- Words that are all 0, in which the first n readers have published one version: one more of them is one more word stored.
set-zero : (w : List ℕ) (j : ℕ) → get_or w j 0 ≡ 0 → set w j 0 ≡ w
set-zero w j e = ap (λ (n : ℕ). set w j n) (sym e) ∙ set-get_or w j 0

pub readers_none : (w : List ℕ) (x : Reader) → with_readers 0 w x ≡ w
unfolding with_readers
readers_none w x = refl

publish_suc : (n ver : ℕ) → set (with_readers n (replicate words_length 0) (blank_reader ver)) (head_word_count + reader_word_count * n + 3) ver ≡ with_readers (suc n) (replicate words_length 0) (blank_reader ver)
unfolding with_readers with_reader
publish_suc n ver = sym (go (with_readers n (replicate words_length 0) (blank_reader ver)) (λ j le. readers_behind n (replicate words_length 0) (blank_reader ver) j le ∙ zero_at words_length j))
  where
    go : (w : List ℕ) → ((j : ℕ) → head_word_count + reader_word_count * n ≤ j → get_or w j 0 ≡ 0) → put_words w (head_word_count + reader_word_count * n) 0 (reader_words (blank_reader ver)) ≡ set w (head_word_count + reader_word_count * n + 3) ver
    go w e =
        let start = head_word_count + reader_word_count * n in
        let after : set (set w (start + 3) ver) (start + 4) 0 ≡ set w (start + 3) ver = set-zero (set w (start + 3) ver) (start + 4) (get_or-set_other w (start + 3) (start + 4) ver 0 (λ eq. omega arith) ∙ e (start + 4) (omega arith)) in
        rw (set-zero w (start + 0) (e (start + 0) (omega arith)), set-zero w (start + 1) (e (start + 1) (omega arith)), set-zero w (start + 2) (e (start + 2) (omega arith))) after

pub publish_next : (n ver : ℕ) → set (with_readers n (replicate words_length 0) (blank_reader ver)) (head_word_count + reader_word_count * n + 3) ver ≡ with_readers (n + 1) (replicate words_length 0) (blank_reader ver)
publish_next n ver = rw (add-one n) (publish_suc n ver)
