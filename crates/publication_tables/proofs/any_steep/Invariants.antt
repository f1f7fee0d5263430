-- `any` says whether two neighbours before entry k are steep. Assumes nothing.
use Prim.Native.Nat.{ℕ, ◌+◌, ◌-◌, ◌≤◌}
use lib.IntN.{ℤ}
use lib.ListN.{length}
use mathlib.Core.List.{List}
use mathlib.Core.Path.{◌≡◌}
use mathlib.Core.Bool.{Bool}
use Rattle.base.specs.Rows.{any_below}
use Rattle.calls.specs.FirstTable.{steep, entry_of}
use Rattle.publication_tables.proofs.any_steep.Given as goal

-- Whether entries k and k + 1 are steep.
abbrev pub steep_at : List ℤ → ℕ → Bool
steep_at table k = steep (entry_of table k) (entry_of table (k + 1))

abbrev pub invariant-loop-k : goal.invariant-loop-k
invariant-loop-k l = (1 ≤ l.k) × (l.k - 1 ≤ length l.table - 1) × (l.any ≡ any_below (steep_at l.table) (l.k - 1))
