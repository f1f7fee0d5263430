-- Laws of plain decimals, for every number: what decimal writes, plain reads back, and it reads nothing else as that number; a decimal is digits alone, so that
-- no space stands in it. By the digits from the left: those of a number's tenth, then its last digit. Assumes nothing.
use Rattle.std.specs.Prelude.{ℕ, zero, suc, ◌+◌, ◌*◌, ◌-◌, ◌/◌, ◌^◌, ◌<◌, ◌≤◌, ◌≡◌, refl, ◌≢◌, List, [], ◌∷◌, ◌++◌, eqb, length, Option, Some}
use Rattle.std.proofs.Common.{arith, sym, ap, ap₂, ◌∙◌, append_assoc, append-nil, ne_eqb, eqb-true}
use Rattle.std.proofs.lemmas.Bool.{eqb-false}
use Rattle.base.specs.Rows.{outside}
use Rattle.base.specs.RowLaws.{choose_split, within, not_outside}
use Rattle.sheet_law.specs.Text.{space_byte, minus_byte, digit_0, digit_9, last_digit, digits_before, decimal}
use Rattle.sheet_law.specs.Reading.{up_to_space, after_space, digits, plain, positive}
use Rattle.std.proofs.lemmas.Option.{none-some, same_Some}
use Rattle.sheet_law.specs.Decimals.{AllDigits, signed}

-- A number below ten is its digit; the digits of another are those of its tenth before its last digit.
spell_one : (f n : ℕ) (l : List ℕ) → n / 10 ≡ 0 → digits_before (suc f) n l ≡ last_digit n ∷ l
unfolding digits_before
spell_one f n l e = rw e refl

spell_more : (f n : ℕ) (l : List ℕ) → n / 10 ≢ 0 → digits_before (suc f) n l ≡ digits_before f (n / 10) (last_digit n ∷ l)
unfolding digits_before
spell_more f n l e = rw (ne_eqb (n / 10) 0 e) refl

one_or_more : (Q : List ℕ → Type 0) (f n : ℕ) (l : List ℕ) → (n / 10 ≡ 0 → Q (last_digit n ∷ l)) → (n / 10 ≢ 0 → Q (digits_before f (n / 10) (last_digit n ∷ l))) → Q (digits_before (suc f) n l)
unfolding digits_before
one_or_more Q f n l one more = choose_split Q (eqb (n / 10) 0) (λ e. one (eqb-true _ _ e)) (λ e. more (eqb-false _ _ e))

-- Fuel above the number is enough, whatever it is.
fuel : (f g n : ℕ) (l : List ℕ) → n < f → n < g → digits_before f n l ≡ digits_before g n l
fuel zero g n l lt lt' = absurd (omega arith)
fuel (suc f) zero n l lt lt' = absurd (omega arith)
fuel (suc f) (suc g) n l lt lt' = one_or_more (λ k. k ≡ digits_before (suc g) n l) f n l
    (λ e. sym (spell_one g n l e))
    (λ e. fuel f g (n / 10) (last_digit n ∷ l) (omega arith) (omega arith) ∙ sym (spell_more g n l e))

pub spell_last : (n : ℕ) (l : List ℕ) → n / 10 ≡ 0 → digits_before (suc n) n l ≡ last_digit n ∷ l
spell_last n l e = spell_one n n l e

pub spell_next : (n : ℕ) (l : List ℕ) → (n / 10 ≡ 0 → ⊥) → digits_before (suc n) n l ≡ digits_before (suc (n / 10)) (n / 10) (last_digit n ∷ l)
spell_next n l e = spell_more n n l e ∙ fuel n (suc (n / 10)) (n / 10) (last_digit n ∷ l) (omega arith) (omega arith)

-- Digits, read from the left.
pub digit_read : (m b : ℕ) (l : List ℕ) → digit_0 ≤ b → b ≤ digit_9 → digits m (b ∷ l) ≡ digits (m * 10 + (b - digit_0)) l
unfolding digits
digit_read m b l low high = rw (not_outside digit_0 digit_9 b low high) refl

last_read : (m n : ℕ) (l : List ℕ) → m ≡ n / 10 → digits m (last_digit n ∷ l) ≡ digits n l
last_read m n l e = digit_read m (last_digit n) l (omega arith) (omega arith) ∙ ap (λ k. digits k l) (omega arith)

digits_before_lem : (f n : ℕ) (l : List ℕ) → n < f → digits 0 (digits_before f n l) ≡ digits n l
digits_before_lem zero n l lt = absurd (omega arith)
digits_before_lem (suc f) n l lt = one_or_more (λ k. digits 0 k ≡ digits n l) f n l
    (λ e. last_read 0 n l (sym e))
    (λ e. digits_before_lem f (n / 10) (last_digit n ∷ l) (omega arith) ∙ last_read (n / 10) n l refl)

pub digits_decimal : (n : ℕ) → digits 0 (decimal n) ≡ Some n
unfolding decimal digits
digits_decimal n = digits_before_lem (suc n) n [] (omega arith)

-- The first digit of a number other than 0 is not 0, so that reading it as a plain decimal is reading its digits.
plain_digits : (b : ℕ) (l : List ℕ) → b ≢ digit_0 → plain (b ∷ l) ≡ digits 0 (b ∷ l)
unfolding plain
plain_digits b [] ne = refl
plain_digits b (c ∷ l) ne = rw (ne_eqb b digit_0 ne) refl

plain_before : (f n : ℕ) (l : List ℕ) → n < f → n ≢ 0 → plain (digits_before f n l) ≡ digits 0 (digits_before f n l)
plain_before zero n l lt ne = absurd (omega arith)
plain_before (suc f) n l lt ne = one_or_more (λ k. plain k ≡ digits 0 k) f n l
    (λ e. plain_digits (last_digit n) l (λ z. omega arith))
    (λ e. plain_before f (n / 10) (last_digit n ∷ l) (omega arith) e)

pub plain_decimal : (n : ℕ) → plain (decimal n) ≡ Some n
unfolding decimal digits_before plain digits
plain_decimal zero = refl
plain_decimal (suc n) = plain_before (suc (suc n)) (suc n) [] (omega arith) (λ z. omega arith) ∙ digits_decimal (suc n)

-- Two different numbers have different decimals.
pub decimal_injective : (n m : ℕ) → decimal n ≡ decimal m → n ≡ m
decimal_injective n m e = same_Some n m (sym (plain_decimal n) ∙ (ap plain e ∙ plain_decimal m))

all_before : (f n : ℕ) (l : List ℕ) → AllDigits l → AllDigits (digits_before f n l)
unfolding digits_before
all_before zero n l a = a
all_before (suc f) n l a = one_or_more AllDigits f n l (λ e. here) (λ e. all_before f (n / 10) (last_digit n ∷ l) here)
  where
    here : AllDigits (last_digit n ∷ l)
    here = ((omega arith, omega arith), a)

pub all_digits : (n : ℕ) → AllDigits (decimal n)
unfolding decimal
all_digits n = all_before (suc n) n [] tt

-- No space is a digit.
up_to_space_digits : (k : List ℕ) → AllDigits k → (l : List ℕ) → up_to_space (k ++ (space_byte ∷ l)) ≡ k
unfolding up_to_space
up_to_space_digits [] a l = refl
up_to_space_digits (b ∷ k) a l = rw (ne_eqb b space_byte (λ z. omega arith)) (ap (λ x. b ∷ x) (up_to_space_digits k a.1 l))

after_space_digits : (k : List ℕ) → AllDigits k → (l : List ℕ) → after_space (k ++ (space_byte ∷ l)) ≡ l
unfolding after_space
after_space_digits [] a l = refl
after_space_digits (b ∷ k) a l = rw (ne_eqb b space_byte (λ z. omega arith)) (after_space_digits k a.1 l)

pub decimal_up_to_space : (n : ℕ) (l : List ℕ) → up_to_space (decimal n ++ (space_byte ∷ l)) ≡ decimal n
decimal_up_to_space n = up_to_space_digits (decimal n) (all_digits n)

pub decimal_after_space : (n : ℕ) (l : List ℕ) → after_space (decimal n ++ (space_byte ∷ l)) ≡ l
decimal_after_space n = after_space_digits (decimal n) (all_digits n)

pub signed_decimal : (below above : Option ℕ → Option ℕ) (n : ℕ) → signed below above (decimal n) ≡ positive (above (Some n))
unfolding plain
signed_decimal below above n = go (decimal n) (all_digits n) (plain_decimal n)
  where
    go : (k : List ℕ) → AllDigits k → plain k ≡ Some n → signed below above k ≡ positive (above (Some n))
    go [] a e = absurd (none-some n e)
    go (b ∷ k) a e = rw (ne_eqb b minus_byte (λ z. omega arith), e) refl

-- What stands after the digits is left as it is; so one digit more is ten times the number and the digit.
before_append : (f n : ℕ) (k l : List ℕ) → digits_before f n (k ++ l) ≡ digits_before f n k ++ l
unfolding digits_before
before_append zero n k l = refl
before_append (suc f) n k l = one_or_more (λ x. digits_before (suc f) n (k ++ l) ≡ x ++ l) f n k
    (λ e. spell_one f n (k ++ l) e)
    (λ e. spell_more f n (k ++ l) e ∙ before_append f (n / 10) (last_digit n ∷ k) l)

pub decimal_more : (m b : ℕ) → m ≢ 0 → digit_0 ≤ b → b ≤ digit_9 → decimal (m * 10 + (b - digit_0)) ≡ decimal m ++ (b ∷ [])
unfolding decimal
decimal_more m b ne low high =
    let n : ℕ = m * 10 + (b - digit_0) in
    let tenth : n / 10 ≡ m = omega arith in
    let last : last_digit n ≡ b = omega arith in
    spell_next n [] (λ z. omega arith) ∙ (ap₂ (λ t c. digits_before (suc t) t (c ∷ [])) tenth last ∙ before_append (suc m) m [] (b ∷ []))

pub decimal_one : (n b : ℕ) → digit_0 ≤ b → b ≤ digit_9 → n ≡ b - digit_0 → decimal n ≡ b ∷ []
unfolding decimal
decimal_one n b low high e = spell_last n [] (omega arith) ∙ ap (λ c. c ∷ []) (omega arith)

-- Only its plain decimal is read as a number: a digit that was read is one.
digit_is : (m b n : ℕ) (l : List ℕ) → digits m (b ∷ l) ≡ Some n → (digit_0 ≤ b) × (b ≤ digit_9) × (digits (m * 10 + (b - digit_0)) l ≡ Some n)
unfolding digits
digit_is m b n l = choose_split (λ x. x ≡ Some n → (digit_0 ≤ b) × (b ≤ digit_9) × (digits (m * 10 + (b - digit_0)) l ≡ Some n)) (outside digit_0 digit_9 b)
    (λ _ e. absurd (none-some n e))
    (λ d e. let q = within digit_0 digit_9 b d in (q.0, q.1, e))

digits_only : (l : List ℕ) (m n : ℕ) → m ≢ 0 → digits m l ≡ Some n → decimal n ≡ decimal m ++ l
unfolding digits
digits_only [] m n ne e = rw (append-nil (decimal m), same_Some m n e) refl
digits_only (b ∷ l) m n ne e =
    let d = digit_is m b n l e in
    digits_only l (m * 10 + (b - digit_0)) n (λ z. omega arith) d.2 ∙ (ap (λ k. k ++ l) (decimal_more m b ne d.0 d.1) ∙ append_assoc (decimal m) (b ∷ []) l)

pub plain-only : (l : List ℕ) (n : ℕ) → plain l ≡ Some n → decimal n ≡ l
unfolding plain digits
plain-only [] n e = absurd (none-some n e)
plain-only (b ∷ []) n e =
    let d = digit_is 0 b n [] e in
    decimal_one n b d.0 d.1 (omega (arith, same_Some (0 * 10 + (b - digit_0)) n d.2))
plain-only (b ∷ c ∷ l) n e = choose_split (λ x. x ≡ Some n → decimal n ≡ b ∷ c ∷ l) (eqb b digit_0)
    (λ _ z. absurd (none-some n z))
    (λ t z. more (eqb-false b digit_0 t) (digit_is 0 b n (c ∷ l) z))
    e
  where
    more : b ≢ digit_0 → (digit_0 ≤ b) × (b ≤ digit_9) × (digits (0 * 10 + (b - digit_0)) (c ∷ l) ≡ Some n) → decimal n ≡ b ∷ c ∷ l
    more ne d = digits_only (c ∷ l) (0 * 10 + (b - digit_0)) n (λ z. omega arith) d.2 ∙ ap (λ k. k ++ (c ∷ l)) (decimal_one _ b d.0 d.1 (omega arith))

-- A number below 10 ^ f has at most f digits.
before_length : (f n : ℕ) (l : List ℕ) → n < 10 ^ f → n ≢ 0 → length (digits_before (suc n) n l) ≤ f + length l
before_length zero n l lt ne = absurd (omega arith)
before_length (suc f) n l lt ne = go (n / 10) refl (before_length f (n / 10) (last_digit n ∷ l))
  where
    go : (t : ℕ) → n / 10 ≡ t → (n / 10 < 10 ^ f → n / 10 ≢ 0 → length (digits_before (suc (n / 10)) (n / 10) (last_digit n ∷ l)) ≤ f + length (last_digit n ∷ l)) → length (digits_before (suc n) n l) ≤ suc f + length l
    go zero e rec = rw (spell_last n l e) (omega arith)
    go (suc t) e rec = rw (spell_next n l (λ z. omega arith)) (let r = rec (omega arith) (λ z. omega arith) in omega arith)

pub decimal_length : (f n : ℕ) → n < 10 ^ f → 1 ≤ f → length (decimal n) ≤ f
unfolding decimal digits_before
decimal_length f zero lt some = some
decimal_length f (suc n) lt some = let r = before_length f (suc n) [] lt (λ z. omega arith) in omega arith
