-- What every kind serves of LOOK, CLAIM, WRITE and SWAP, from what every kind keeps: at a state where these calls are the shared ones. Assumes nothing.
use Rattle.std.specs.Prelude.{ℕ, ◌≡◌, Bool, ℤ}
use Rattle.calls.specs.declared.Call.TheVariants.{Look, Claim, Write, Swap}
use Rattle.statement.specs.Machine.{State, Machine}
use Rattle.publication_law.specs.Steps.{decide, look_tests, look, claim_tests, claim, write_tests, write, swap_tests, swap}

-- At a state the four calls of a machine are the shared ones.
pub record SharedCalls (exclusive retiring : Bool) (M : Machine) (s : State) : Type 0 where
  pub looks : (r k : ℕ) → M.step s (Look r k) ≡ decide (look_tests s r k) (look s r k) s
  pub claims : (p x : ℕ) → M.step s (Claim p x) ≡ decide (claim_tests exclusive retiring s p x) (claim s p x) s
  pub writes : (p : ℕ) (v : ℤ) → M.step s (Write p v) ≡ decide (write_tests s p v) (write s p v) s
  pub swaps : (p : ℕ) → M.step s (Swap p) ≡ decide (swap_tests s p) (swap s p) s
