-- Refusals as data: rows of tests, each with its number.
use Rattle.std.specs.Prelude.{ℕ, zero, suc, Bool, false, ◌||◌, List, [], ◌∷◌, ltb}
use Rattle.base.specs.Base.{choose}

infix 70 ◌gives◌
pub data Test : Type 0 where
  ◌gives◌ : Bool → ℕ → Test

-- Rows are tested downward and each row from left to right, the first that applies is given: 0 where none applies.
abbrev pub first_of : List Test → ℕ
first_of [] = 0
first_of ((b gives n) ∷ l) = choose b n (first_of l)

abbrev pub any_true : List Bool → Bool
any_true [] = false
any_true (b ∷ l) = b || any_true l

-- whether f holds of a number below n
unfoldable pub any_below : (ℕ → Bool) → ℕ → Bool
any_below f zero = false
any_below f (suc n) = any_below f n || f n

-- of how many numbers below n f holds
unfoldable pub count_below : (ℕ → Bool) → ℕ → ℕ
count_below f zero = 0
count_below f (suc n) = choose (f n) (suc (count_below f n)) (count_below f n)

-- n is not from low to high
abbrev pub outside : ℕ → ℕ → ℕ → Bool
outside low high n = ltb n low || ltb high n
