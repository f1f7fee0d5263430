-- The definitions on bytes, as the library's functions on lists meet them. Assumes nothing.
use Rattle.std.specs.Prelude.{ℕ, suc, ◌+◌, ◌-◌, ◌*◌, ◌<◌, ◌≤◌, ◌≡◌, ◌≢◌, refl, Bool, true, false, cond, ◌||◌, List, [], ◌∷◌, ◌==◌, eqb, ltb, length, get_or, take, drop, Some, None}
use Rattle.std.specs.Int.{IsInRange, IsOutOfRange}
use Rattle.std.specs.List.{position, position_or_len, before_first, after_first}
use Rattle.std.proofs.Common.{arith, inl, inr, add-one, sym, ap, ◌∙◌, drop_of_length-le, take_all, lt-ltb, ltb-false, eq-eqb, ne_eqb}
use Rattle.std.proofs.Math.Numerals.{one-add}
use Rattle.std.proofs.lemmas.List.{at_drop_more}
use Rattle.std.proofs.lemmas.Option.{cond_some, none-some}
use Rattle.base.specs.Base.{choose}
use Rattle.base.specs.Rows.{outside}
use Rattle.calls.specs.Numbers.{pitch_half}
use Rattle.sheet_law.specs.Text.{space_byte, minus_byte, digit_0, digit_9}
use Rattle.sheet_law.specs.Reading.{up_to_space, after_space, digits, plain, at_most, negative, positive, angle}
use Rattle.sheet_law.proofs.Decimals.{digit_read}

-- The first byte that passes a test.
module _ (p : ℕ → Bool) (b : ℕ) (l : List ℕ) where
  pub before_here : p b ≡ true → before_first p (b ∷ l) ≡ []
  before_here e = rw e refl

  pub after_here : p b ≡ true → after_first p (b ∷ l) ≡ l
  after_here e = rw e refl

  pub before_more : p b ≡ false → before_first p (b ∷ l) ≡ b ∷ before_first p l
  before_more e = rw (e, one-add (position_or_len p l)) refl

  pub after_more : p b ≡ false → after_first p (b ∷ l) ≡ after_first p l
  after_more e = rw (e, one-add (position_or_len p l), add-one (suc (position_or_len p l)), add-one (position_or_len p l)) refl

module _ (p : ℕ → Bool) (l : List ℕ) where
  pub cut_at : (i : ℕ) → position p l ≡ Some i → (take i l ≡ before_first p l) × (drop (i + 1) l ≡ after_first p l)
  cut_at i e = let here = (cond_some _ _ _ e).1 in (ap (λ k. take k l) (sym here), ap (λ k. drop (k + 1) l) (sym here))

  pub no_cut : position p l ≡ None → (l ≡ before_first p l) × ([] ≡ after_first p l)
  no_cut = go (ltb (position_or_len p l) (length l)) refl
    where
      go : (t : Bool) → ltb (position_or_len p l) (length l) ≡ t → cond t (Some (position_or_len p l)) None ≡ None → (l ≡ before_first p l) × ([] ≡ after_first p l)
      go true _ e = absurd (none-some _ (sym e))
      go false d _ = let all = ltb-false _ _ d in (sym (take_all _ l all), sym (drop_of_length-le l (omega arith)))

-- The first space.
abbrev is_space : ℕ → Bool
is_space b = b == space_byte

pub up_to_space_is : (l : List ℕ) → before_first is_space l ≡ up_to_space l
unfolding up_to_space
up_to_space_is [] = refl
up_to_space_is (b ∷ l) = go (eqb b space_byte) refl (up_to_space_is l)
  where
    go : (t : Bool) → eqb b space_byte ≡ t → before_first is_space l ≡ up_to_space l → before_first is_space (b ∷ l) ≡ up_to_space (b ∷ l)
    go true e _ = before_here is_space b l e ∙ rw e refl
    go false e rest = before_more is_space b l e ∙ rw e (ap (λ k. b ∷ k) rest)

pub after_space_is : (l : List ℕ) → after_first is_space l ≡ after_space l
unfolding after_space
after_space_is [] = refl
after_space_is (b ∷ l) = go (eqb b space_byte) refl (after_space_is l)
  where
    go : (t : Bool) → eqb b space_byte ≡ t → after_first is_space l ≡ after_space l → after_first is_space (b ∷ l) ≡ after_space (b ∷ l)
    go true e _ = after_here is_space b l e ∙ rw e refl
    go false e rest = after_more is_space b l e ∙ rw e rest

-- A byte that is no digit, and the digit at a place of a text.
digit_bad : (n b : ℕ) (l : List ℕ) → IsOutOfRange digit_0 digit_9 b → digits n (b ∷ l) ≡ None
unfolding digits
digit_bad n b l (inl low) = rw (lt-ltb b digit_0 low) refl
digit_bad n b l (inr high) = rw (lt-ltb digit_9 b high) (go (ltb b digit_0))
  where
    go : (t : Bool) → choose (t || true) None (digits (n * 10 + (b - digit_0)) l) ≡ None
    go true = refl
    go false = refl

pub digits_bad : (l : List ℕ) (i n : ℕ) → i < length l → IsOutOfRange digit_0 digit_9 (get_or l i 0) → digits n (drop i l) ≡ None
digits_bad l i n h bad = at_drop_more (digits n) l i 0 h ∙ digit_bad n _ _ bad

pub digits_next : (l : List ℕ) (i n : ℕ) → i < length l → IsInRange digit_0 digit_9 (get_or l i 0) → digits n (drop i l) ≡ digits (n * 10 + (get_or l i 0 - digit_0)) (drop (i + 1) l)
digits_next l i n h digit = at_drop_more (digits n) l i 0 h ∙ digit_read n _ _ digit.0 digit.1

pub digits_end : (l : List ℕ) (i n : ℕ) → length l ≤ i → digits n (drop i l) ≡ Some n
unfolding digits
digits_end l i n h = rw (drop_of_length-le l h) refl

-- A number that is too wide stays so, whatever digits come after.
pub too_wide : (most n : ℕ) (l : List ℕ) → most < n → at_most most (digits n l) ≡ None
unfolding digits
too_wide most n [] h = rw (lt-ltb most n h) refl
too_wide most n (b ∷ l) h = go (outside digit_0 digit_9 b) (too_wide most (n * 10 + (b - digit_0)) l (omega arith))
  where
    go : (t : Bool) → at_most most (digits (n * 10 + (b - digit_0)) l) ≡ None → at_most most (choose t None (digits (n * 10 + (b - digit_0)) l)) ≡ None
    go true e = refl
    go false e = e

-- A plain decimal has a digit, and no leading zero.
pub plain_empty : (l : List ℕ) → length l < 1 → plain l ≡ None
unfolding plain
plain_empty [] h = refl
plain_empty (b ∷ l) h = absurd (omega arith)

pub plain_zero : (l : List ℕ) → 1 < length l → get_or l 0 0 ≡ digit_0 → plain l ≡ None
unfolding plain
plain_zero [] h e = absurd (omega arith)
plain_zero (b ∷ []) h e = absurd (omega arith)
plain_zero (b ∷ c ∷ l) h e = rw (eq-eqb b digit_0 e) refl

pub plain_digits : (l : List ℕ) → 0 < length l → (1 < length l → get_or l 0 0 ≢ digit_0) → plain l ≡ digits 0 l
unfolding plain
plain_digits [] h e = absurd (omega arith)
plain_digits (b ∷ []) h e = refl
plain_digits (b ∷ c ∷ l) h e = rw (ne_eqb b digit_0 (e (omega arith))) refl

-- A pitch, with a minus before it or without.
pub angle_minus : (l : List ℕ) → 0 < length l → get_or l 0 0 ≡ minus_byte → angle l ≡ negative (at_most pitch_half (plain (drop 1 l)))
unfolding angle
angle_minus [] h e = absurd (omega arith)
angle_minus (b ∷ l) h e = rw (eq-eqb b minus_byte e) refl

pub angle_plain : (l : List ℕ) → (0 < length l → get_or l 0 0 ≢ minus_byte) → angle l ≡ positive (at_most (pitch_half - 1) (plain l))
unfolding angle plain
angle_plain [] h = refl
angle_plain (b ∷ l) h = rw (ne_eqb b minus_byte (h (omega arith))) refl
