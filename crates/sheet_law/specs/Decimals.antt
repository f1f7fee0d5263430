-- Laws of plain decimals, for every number: what decimal writes, plain reads back, and it reads nothing else as that number; a decimal is digits alone, so that
-- no space stands in it. By the digits from the left: those of a number's tenth, then its last digit. Assumes nothing.
use Rattle.std.specs.Prelude.{ℕ, ◌≤◌, List, [], ◌∷◌, eqb, ℤ, Option, None}
use Rattle.base.specs.Base.{choose}
use Rattle.sheet_law.specs.Text.{minus_byte, digit_0, digit_9}
use Rattle.sheet_law.specs.Reading.{plain, negative, positive}

-- A decimal is digits.
abbrev pub AllDigits : List ℕ → Type 0
AllDigits [] = Unit {0}
AllDigits (b ∷ l) = ((digit_0 ≤ b) × (b ≤ digit_9)) × AllDigits l

-- A decimal that may have a minus before it, read with a test of either; no digit is a minus.
abbrev pub signed : (Option ℕ → Option ℕ) → (Option ℕ → Option ℕ) → List ℕ → Option ℤ
signed below above [] = None
signed below above (b ∷ l) = choose (eqb b minus_byte) (negative (below (plain l))) (positive (above (plain (b ∷ l))))
