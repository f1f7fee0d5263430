-- Laws of options. Assumes nothing.
use Rattle.std.specs.Prelude.{ℕ, ◌≡◌}
use Rattle.std.proofs.Common.{arith}
use Rattle.std.proofs.Math.Option.{none, some}

module _ {A : Type 0} where
  pub none_some : (x : A) → none ≡ some x → ⊥
  none_some x e = let z : ◌≡◌ {A = ℕ} 0 1 = cc in omega arith

  pub some_same : (x y : A) → some x ≡ some y → x ≡ y
  some_same x y e = cc
