-- The slots before s have the table, by its copy. Assumes nothing.
use lib.ListN.{length, take}
use Prim.Native.Nat.{◌-◌, ◌*◌, ◌≤◌}
use mathlib.Core.Path.{◌≡◌}
use Rattle.calls.specs.FirstTable.{tables}
use Rattle.publication_tables.proofs.fill.Given as goal

abbrev pub invariant-loop-s : goal.invariant-loop-s
invariant-loop-s l = (l.s ≤ l.slots) × (length l.entries ≡ length l.initial.entries) × (take (l.s * 32) l.entries ≡ tables l.s l.table)

abbrev pub decreases-loop-s : goal.decreases-loop-s
decreases-loop-s l = l.slots - l.s
