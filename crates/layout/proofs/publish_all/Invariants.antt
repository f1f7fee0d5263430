-- The readers before r have published. Assumes nothing.
use Prim.Native.Nat.{◌≤◌}
use mathlib.Core.Path.{◌≡◌}
use lib.ListN.{replicate}
use Rattle.calls.specs.Numbers.{readers_max}
use Rattle.layout.specs.Layout.{words_length, with_readers, blank_reader}
use Rattle.layout.proofs.publish_all.Given as goal

abbrev pub invariant-loop-r : goal.invariant-loop-r
invariant-loop-r l = (l.r ≤ readers_max) × (l.words ≡ with_readers l.r (replicate words_length 0) (blank_reader l.published))
