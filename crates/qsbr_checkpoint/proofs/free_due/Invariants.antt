-- `free_due` meets its contract: what is still to be freed is `staying` from where the loop is. Assumes nothing.
use lib.ListN.{length}
use Prim.Native.Nat.{◌-◌, ◌≤◌}
use mathlib.Core.Path.{◌≡◌}
use Rattle.layout.specs.Layout.{words_length}
use Rattle.qsbr_law.specs.Steps.{staying}
use Rattle.qsbr_checkpoint.proofs.free_due.Given as goal

abbrev pub invariant-loop-i : goal.invariant-loop-i
invariant-loop-i l = (l.kept ≤ l.i) × (length l.words ≡ words_length) × (staying l.p l.least l.n 0 0 l.initial.words ≡ staying l.p l.least (l.n - l.i) l.i l.kept l.words)
