-- A list that is filled with one value, from its start. Assumes nothing.
use Rattle.std.specs.Prelude.{ℕ, ◌+◌, ◌<◌, ◌≤◌, ◌≡◌, List, [], ◌∷◌, ◌++◌, length, take, set, replicate}
use Rattle.std.proofs.Common.{arith, add-one, sym, ap, ◌∙◌, take-suc-set, take_all}
use Rattle.std.proofs.lemmas.List.{replicate-append-replicate}

module _ {A : Type 0} (x : A) where
  pub fills : (l : List A) (n : ℕ) → n < length l → take n l ≡ replicate n x → take (n + 1) (set l n x) ≡ replicate (n + 1) x
  fills l n lt e = ap (λ (m : ℕ). take m (set l n x)) (add-one n) ∙ take-suc-set l n x lt ∙ ap (λ (first : List A). first ++ (x ∷ [])) e ∙ replicate-append-replicate n 1 x

  pub filled : (l : List A) (n m : ℕ) → length l ≡ m → m ≤ n → n ≤ m → take n l ≡ replicate n x → l ≡ replicate m x
  filled l n m long ge le e = let same : n ≡ m = omega arith in sym (take_all n l (omega arith)) ∙ e ∙ ap (λ (j : ℕ). replicate j x) same
