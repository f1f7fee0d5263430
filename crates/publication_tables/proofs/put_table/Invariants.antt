-- The first k entries of the table are put. Assumes nothing.
use lib.ListN.{length, take}
use Prim.Native.Nat.{◌+◌, ◌-◌, ◌≤◌}
use mathlib.Core.Path.{◌≡◌}
use mathlib.Core.List.{◌++◌}
use Rattle.publication_tables.proofs.put_table.Given as goal

abbrev pub invariant-loop-k : goal.invariant-loop-k
invariant-loop-k l = (l.k ≤ 32) × (length l.entries ≡ length l.initial.entries) × (take (l.base + l.k) l.entries ≡ take l.base l.initial.entries ++ take l.k l.table)

abbrev pub decreases-loop-k : goal.decreases-loop-k
decreases-loop-k l = 32 - l.k
