-- The loop of `spell` keeps the digits of what is left before those written as the decimal; what is left is below ten to the power of the bytes that are free. Assumes nothing.
use Prim.Native.Nat.{suc, ◌^◌, ◌≤◌, ◌<◌}
use mathlib.Core.Path.{◌≡◌}
use lib.ListN.{drop}
use Rattle.sheet_law.specs.Text.{digits_before, decimal}
use Rattle.sheet_printing.proofs.spell.Given as goal

abbrev pub invariant-loop-left : goal.invariant-loop-left
invariant-loop-left l = record { more : 0 < l.at; within : l.at ≤ 20; fits : l.left < 10 ^ l.at; digits : digits_before (suc l.left) l.left (drop l.at l.bytes) ≡ decimal l.n }

abbrev pub decreases-loop-left : goal.decreases-loop-left
decreases-loop-left l = l.at
