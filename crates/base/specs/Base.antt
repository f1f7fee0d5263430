-- Choice by a test, and functions of a number with one value replaced.
use Rattle.std.specs.Prelude.{ℕ, Bool, true, false, eqb}
use Rattle.std.proofs.Math.Option.{Option, none, some}

-- a where the test holds, else b
abbrev pub choose : {A : Type 0} → Bool → A → A → A
choose true a b = a
choose false a b = b

-- f, but a at i
abbrev pub upd : {A : Type 0} → (ℕ → A) → ℕ → A → ℕ → A
upd f i a j = choose (eqb j i) a (f j)

-- whether there is a number, and it is n
abbrev pub is : Option ℕ → ℕ → Bool
is none n = false
is (some m) n = eqb m n
