-- A pitch is in range exactly if it is -5000 to 95000, and two pitches are not too far apart exactly if they differ by at most 15000:
-- in natural numbers, and not by the tests that the definitions make. Assumes nothing.
use Rattle.std.specs.Prelude.{ℕ, zero, suc, ◌+◌, ◌-◌, ◌≤◌, ◌≡◌, refl, Bool, true, false, cond, ◌↔◌, ℤ, pos, negsuc, ◌-ℤ◌, ltb}
use Rattle.std.proofs.Common.{arith, ltb-false, ltb-true, le-ltb}
use Rattle.std.proofs.Math.IntN.{sub_ℕ}
use Rattle.std.specs.Int.Signed.{lt_z}
use Rattle.base.specs.RowLaws.{or_false}
use Rattle.calls.specs.FirstTable.{out_of_range, steep}

-- -5000 to 95000. (`negsuc n` is -(n + 1).)
abbrev pub InRange : ℤ → Type 0
InRange (pos n) = n ≤ 95000
InRange (negsuc n) = suc n ≤ 5000

pub in_range_exactly : (v : ℤ) → (out_of_range v ≡ false) ↔ InRange v
in_range_exactly (pos n) = (λ e. ltb-false 95000 n (or_false false (ltb 95000 n) e).1, λ le. le-ltb 95000 n le)
in_range_exactly (negsuc n) = (λ e. let l = ltb-false 4999 n (or_false (ltb 4999 n) false e).0 in omega arith, λ le. rw (le-ltb 4999 n (omega arith)) refl)

-- The first pitch is at most 15000 above the second.
abbrev pub WithinStep : ℤ → ℤ → Type 0
WithinStep (pos m) (pos n) = m ≤ n + 15000
WithinStep (pos m) (negsuc n) = m + suc n ≤ 15000
WithinStep (negsuc m) (pos n) = Unit {0}
WithinStep (negsuc m) (negsuc n) = n ≤ m + 15000

-- The difference of two natural numbers is at most 15000 exactly if the first is at most so much above the second.
above : (m n : ℕ) → (lt_z (pos 15000) (sub_ℕ m n) ≡ false) ↔ (m ≤ n + 15000)
above m n = go (ltb m n) refl
  where
    go : (t : Bool) → ltb m n ≡ t → (lt_z (pos 15000) (cond t (negsuc (n - suc m)) (pos (m - n))) ≡ false) ↔ (m ≤ n + 15000)
    go true t = (λ e. omega (arith, ltb-true m n t), λ le. refl)
    go false t = (λ e. omega (arith, ltb-false 15000 (m - n) e, ltb-false m n t), λ le. le-ltb 15000 (m - n) (omega arith))

within_step : (v v' : ℤ) → (lt_z (pos 15000) (v -ℤ v') ≡ false) ↔ WithinStep v v'
within_step (pos m) (pos zero) = (λ e. omega (arith, ltb-false 15000 (m + 0) e), λ le. le-ltb 15000 (m + 0) (omega arith))
within_step (pos m) (pos (suc n)) = above m (suc n)
within_step (pos m) (negsuc n) = (λ e. ltb-false 15000 (m + suc n) e, λ le. le-ltb 15000 (m + suc n) le)
within_step (negsuc m) (pos zero) = (λ e. tt, λ u. (above 0 (suc m)).1 (omega arith))
within_step (negsuc m) (pos (suc n)) = (λ e. tt, λ u. refl)
within_step (negsuc m) (negsuc n) = (λ e. let l = (above (suc n) (suc m)).0 e in omega arith, λ le. (above (suc n) (suc m)).1 (omega arith))

-- Neither is more than 15000 above the other.
pub steep_exactly : (v v' : ℤ) → (steep v v' ≡ false) ↔ (WithinStep v v' × WithinStep v' v)
steep_exactly v v' = (
  λ e. let q = or_false (lt_z (pos 15000) (v -ℤ v')) (lt_z (pos 15000) (v' -ℤ v)) e in ((within_step v v').0 q.0, (within_step v' v).0 q.1),
  λ near. rw ((within_step v v').1 near.0, (within_step v' v).1 near.1) refl,
)
