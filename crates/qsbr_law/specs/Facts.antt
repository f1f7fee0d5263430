-- What an accepted PICK, CHECKPOINT or DEFER does, number by number, of every state; the frame says that nothing else moves. Assumes nothing.
use Prim.Native.Nat.{ℕ, zero, suc, ◌+◌, ◌-◌, ◌<◌, ◌≤◌, min}
use Rattle.std.specs.Prelude.{◌≡◌, List, [], ◌∷◌, leb}
use Rattle.base.specs.Base.{choose}
use Rattle.layout.specs.declared.Retired.{Retired}
use Rattle.layout.specs.Layout.{retired_at}
use Rattle.statement.specs.Machine.{State, Outcome}
use Rattle.publication_law.specs.Steps.{reader}
use Rattle.qsbr_law.specs.Steps.{retirement}

-- The least after a read: the first read starts it, each later one may lower it.
pub record IsLeast (s : State) (r n : ℕ) : Type 0 where
  pub starts : (retirement s r).step ≡ 2 → n ≡ (reader s 0).published
  pub lowers : 2 < (retirement s r).step → n ≡ min (reader s r).second (reader s ((retirement s r).step - 2)).published

-- The retired slots of p in their order, n of them from i on; and those of a list that still wait: their mark is above the least.
unfoldable pub retired_from : List ℕ → ℕ → ℕ → ℕ → List Retired
retired_from w p i zero = []
retired_from w p i (suc n) = retired_at w p i ∷ retired_from w p (i + 1) n

unfoldable pub waiting : ℕ → List Retired → List Retired
waiting least [] = []
waiting least (d ∷ ds) = choose (leb d.mark least) (waiting least ds) (d ∷ waiting least ds)

-- The last step leaves count retired slots: those that wait, in their order; and behind them what stood there.
pub record Freed (s : State) (r least count : ℕ) (o : Outcome) : Type 0 where
  pub stay : retired_from o.after.words r 0 count ≡ waiting least (retired_from s.words r 0 (retirement s r).count)
  pub behind : (i : ℕ) → count ≤ i → retired_at o.after.words r i ≡ retired_at s.words r i
