-- The law of regions: what is written at record j is read there, and every other record is read as before.
-- A record is some words in a row, and regions that lie apart have no word in common. Assumes nothing.
use Rattle.std.specs.Prelude.{ℕ, zero, suc, ◌+◌, ◌<◌, ◌≤◌, ◌≡◌, refl, ◌≢◌, ◌⊎◌, Bool, true, false, List, [], ◌∷◌, get_or, set, length, ltb, eqb}
use Rattle.std.proofs.Common.{arith, mul-suc, mul-le-mul_left, sym, ap, ◌∙◌, inl, inr, length-set, get_or-set_same, get_or-set_other, eqb-true, ltb-true, ltb-false, lt-ltb}
use Rattle.std.proofs.Math.Path.{fun_ext}
use Rattle.std.proofs.lemmas.List.{set-get_or}
use Rattle.std.proofs.lemmas.Bool.{eqb-false}
use Rattle.base.specs.Base.{choose, upd}
use Rattle.layout.specs.Layout.{Region, begins, ends, put_words, record_at, with_record}

-- Words put in a row: how many there are, what stands elsewhere, what stands there; and words put where they stand already.
length_put : (ns w : List ℕ) (start i : ℕ) → length (put_words w start i ns) ≡ length w
length_put [] w start i = refl
length_put (n ∷ ns) w start i = length_put ns (set w (start + i) n) start (i + 1) ∙ length-set w (start + i) n

put_other : (ns w : List ℕ) (start i j : ℕ) → (j < start + i) ⊎ (start + i + length ns ≤ j) → get_or (put_words w start i ns) j 0 ≡ get_or w j 0
put_other [] w start i j o = refl
put_other (n ∷ ns) w start i j (inl l) = put_other ns (set w (start + i) n) start (i + 1) j (inl (omega arith)) ∙ get_or-set_other w (start + i) j n 0 (λ eq. omega arith)
put_other (n ∷ ns) w start i j (inr l) = put_other ns (set w (start + i) n) start (i + 1) j (inr (omega arith)) ∙ get_or-set_other w (start + i) j n 0 (λ eq. omega arith)

put_here : (ns w : List ℕ) (start i m : ℕ) → m < length ns → start + i + length ns ≤ length w → get_or (put_words w start i ns) (start + (i + m)) 0 ≡ get_or ns m 0
put_here [] w start i m l f = absurd (omega arith)
put_here (n ∷ ns) w start i zero l f =
    let e : start + (i + 0) ≡ start + i = omega arith in
    rw e (put_other ns (set w (start + i) n) start (i + 1) (start + i) (inl (omega arith)) ∙ get_or-set_same w (start + i) n 0 (omega arith))
put_here (n ∷ ns) w start i (suc m) l f =
    let e : start + (i + suc m) ≡ start + (i + 1 + m) = omega arith in
    rw e (put_here ns (set w (start + i) n) start (i + 1) m (omega arith) (rw (length-set w (start + i) n) (omega arith)))

put_same : (w : List ℕ) (start i : ℕ) (ns : List ℕ) → ((m : ℕ) → m < length ns → get_or w (start + (i + m)) 0 ≡ get_or ns m 0) → put_words w start i ns ≡ w
put_same w start i [] e = refl
put_same w start i (n ∷ ns) e =
    let f : start + (i + 0) ≡ start + i = omega arith in
    let here : n ≡ get_or w (start + i) 0 = sym (rw f at (e 0 (omega arith))) in
    let w-same : set w (start + i) n ≡ w = rw here (set-get_or w (start + i) 0) in
    rw w-same (put_same w start (i + 1) ns (λ m l. let d : start + (i + suc m) ≡ start + (i + 1 + m) = omega arith in rw d at (e (suc m) (omega arith))))

-- The n numbers of f from i on.
abbrev row : ℕ → ℕ → (ℕ → ℕ) → List ℕ
row zero i f = []
row (suc n) i f = f i ∷ row n (i + 1) f

length_row : (n i : ℕ) (f : ℕ → ℕ) → length (row n i f) ≡ n
length_row zero i f = refl
length_row (suc n) i f = ap suc (length_row n (i + 1) f)

row_at : (n i m : ℕ) (f : ℕ → ℕ) → m < n → get_or (row n i f) m 0 ≡ f (i + m)
row_at zero i m f l = absurd (omega arith)
row_at (suc n) i zero f l = let e : i + 0 ≡ i = omega arith in rw e refl
row_at (suc n) i (suc m) f l = let e : i + suc m ≡ i + 1 + m = omega arith in rw e (row_at n (i + 1) m f (omega arith))

row_agrees : (n i : ℕ) (f f' : ℕ → ℕ) → ((m : ℕ) → m < i + n → f m ≡ f' m) → row n i f ≡ row n i f'
row_agrees zero i f f' e = refl
row_agrees (suc n) i f f' e = rw (e i (omega arith)) (ap (λ (l : List ℕ). f' i ∷ l) (row_agrees n (i + 1) f f' (λ m l. e m (omega arith))))

-- What is known of the records of a region: one is read from its words, and its words are those that it was read from.
pub record Exact {A : Type 0} (region : Region A) : Type 0 where
  pub read : (x : A) → region.from (λ i. get_or (region.words x) i 0) ≡ x
  pub written : (f : ℕ → ℕ) → region.words (region.from f) ≡ row region.stride 0 f

-- Record j ends where the next one begins, and so before a later record.
spaced : {A : Type 0} (region : Region A) (j j' : ℕ) → j < j' → begins region j + region.stride ≤ begins region j'
spaced region j j' l = let le = rw (mul-suc region.stride j) at (mul-le-mul_left region.stride l) in omega arith

module _ {A : Type 0} {region : Region A} (exact : Exact region) where
  -- Records that agree word by word are the same, and each has as many words.
  agree : (f f' : ℕ → ℕ) → ((i : ℕ) → i < region.stride → f i ≡ f' i) → region.from f ≡ region.from f'
  agree f f' e = sym (exact.read (region.from f)) ∙ rw (exact.written f, row_agrees region.stride 0 f f' (λ m l. e m (omega arith)), ← exact.written f') (exact.read (region.from f'))

  long : (x : A) → length (region.words x) ≡ region.stride
  long x = ap (λ (x' : A). length (region.words x')) (sym (exact.read x)) ∙ rw (exact.written (λ i. get_or (region.words x) i 0)) (length_row region.stride 0 _)

  pub length_record : (w : List ℕ) (j : ℕ) (x : A) → length (with_record region w j x) ≡ length w
  length_record w j x = length_put (region.words x) w (begins region j) 0

  -- A record written leaves the words before it and those behind it.
  pub record_leaves : (w : List ℕ) (j : ℕ) (x : A) (m : ℕ) → (m < begins region j) ⊎ (begins region j + region.stride ≤ m) → get_or (with_record region w j x) m 0 ≡ get_or w m 0
  record_leaves w j x m (inl l) = put_other (region.words x) w (begins region j) 0 m (inl (omega arith))
  record_leaves w j x m (inr l) = put_other (region.words x) w (begins region j) 0 m (inr (omega (arith, long x)))

  -- What is read where a record's words agree, or those of the whole region; and where they are all 0.
  record_by : (w' w : List ℕ) (j : ℕ) → (j < region.count → (i : ℕ) → i < region.stride → get_or w' (begins region j + i) 0 ≡ get_or w (begins region j + i) 0) → record_at region w' j ≡ record_at region w j
  record_by w' w j e = go (ltb j region.count) refl
    where
      go : (b : Bool) → ltb j region.count ≡ b → choose b (region.from (λ i. get_or w' (begins region j + i) 0)) (region.from (λ i. 0)) ≡ choose b (region.from (λ i. get_or w (begins region j + i) 0)) (region.from (λ i. 0))
      go true d = agree _ _ (e (ltb-true j region.count d))
      go false d = refl

  pub region_by : (w' w : List ℕ) → ((m : ℕ) → region.start ≤ m → m < ends region → get_or w' m 0 ≡ get_or w m 0) → record_at region w' ≡ record_at region w
  region_by w' w e = fun_ext (λ j. record_by w' w j (λ lt i l. e (begins region j + i) (omega arith) (omega (arith, spaced region j region.count lt))))

  pub region_zero : (w : List ℕ) → ((m : ℕ) → region.start ≤ m → m < ends region → get_or w m 0 ≡ 0) → (j : ℕ) → record_at region w j ≡ region.from (λ i. 0)
  region_zero w e j = go (ltb j region.count) refl
    where
      go : (b : Bool) → ltb j region.count ≡ b → choose b (region.from (λ i. get_or w (begins region j + i) 0)) (region.from (λ i. 0)) ≡ region.from (λ i. 0)
      go true d = agree _ _ (λ i l. e (begins region j + i) (omega arith) (omega (arith, spaced region j region.count (ltb-true j region.count d))))
      go false d = refl

  -- A word stored before the region leaves its records.
  pub region_set : (w : List ℕ) (m n : ℕ) → m < region.start → record_at region (set w m n) ≡ record_at region w
  region_set w m n l = region_by (set w m n) w (λ i low high. get_or-set_other w m i n 0 (λ eq. omega arith))

  -- A record written is read there, and every other one stays; of a field or of the whole record.
  pub record_put : {B : Type 0} (f : A → B) (w : List ℕ) (j : ℕ) (x : A) → ends region ≤ length w → j < region.count → (λ i. f (record_at region (with_record region w j x) i)) ≡ upd (λ i. f (record_at region w i)) j (f x)
  record_put f w j x room lt = fun_ext (λ i. go i (eqb i j) refl)
    where
      put : (m : ℕ) → m < region.stride → get_or (with_record region w j x) (begins region j + m) 0 ≡ get_or (region.words x) m 0
      put m l = let e : 0 + m ≡ m = omega arith in
          rw e at (put_here (region.words x) w (begins region j) 0 m (omega (arith, long x)) (omega (arith, long x, spaced region j region.count lt)))

      here : record_at region (with_record region w j x) j ≡ x
      here = rw (lt-ltb j region.count lt) (agree (λ m. get_or (with_record region w j x) (begins region j + m) 0) (λ m. get_or (region.words x) m 0) put ∙ exact.read x)

      apart : (i m : ℕ) → i ≢ j → m < region.stride → (b : Bool) → ltb i j ≡ b → (begins region i + m < begins region j) ⊎ (begins region j + region.stride ≤ begins region i + m)
      apart i m ne l true e = inl (omega (arith, spaced region i j (ltb-true i j e)))
      apart i m ne l false e = inr (let not-less = ltb-false i j e in omega (arith, spaced region j i (omega arith)))

      go : (i : ℕ) (b : Bool) → eqb i j ≡ b → f (record_at region (with_record region w j x) i) ≡ upd (λ i. f (record_at region w i)) j (f x) i
      go i true e = rw (e, eqb-true i j e) (ap f here)
      go i false e = rw e (ap f (record_by (with_record region w j x) w i (λ below m l. record_leaves w j x (begins region i + m) (apart i m (eqb-false i j e) l (ltb i j) refl))))

  -- A record put back as it was read changes nothing.
  pub record_back : (w : List ℕ) (j : ℕ) → j < region.count → with_record region w j (record_at region w j) ≡ w
  record_back w j lt = rw (lt-ltb j region.count lt, exact.written (λ i. get_or w (begins region j + i) 0))
      (put_same w (begins region j) 0 (row region.stride 0 (λ i. get_or w (begins region j + i) 0)) (λ m l. sym (row_at region.stride 0 m (λ i. get_or w (begins region j + i) 0) (omega (arith, length_row region.stride 0 (λ i. get_or w (begins region j + i) 0))))))

-- Two regions that lie apart: a record written in one, before the other begins or where it has ended, leaves what is read of the other.
pub regions_apart : {A B : Type 0} {region : Region A} {other : Region B} → Exact region → Exact other → (w : List ℕ) (j : ℕ) (x : A)
    → (begins region j + region.stride ≤ other.start) ⊎ (ends other ≤ region.start) → record_at other (with_record region w j x) ≡ record_at other w
regions_apart {region = region} of to w j x (inl l) = region_by to (with_record region w j x) w (λ m low high. record_leaves of w j x m (inr (omega arith)))
regions_apart {region = region} of to w j x (inr l) = region_by to (with_record region w j x) w (λ m low high. record_leaves of w j x m (inl (omega arith)))
