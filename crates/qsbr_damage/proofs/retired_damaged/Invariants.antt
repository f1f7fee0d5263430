-- `retired_damaged` meets its contract: the loop has found no retired slot before i that is none of the store. Assumes nothing.
use Rattle.std.proofs.Common.{◌≡◌, false, leb}
use Rattle.base.specs.Rows.{any_below}
use Rattle.layout.specs.Layout.{retired_at}
use Rattle.qsbr_damage.proofs.retired_damaged.Given as goal

abbrev pub invariant-loop-i : goal.invariant-loop-i
invariant-loop-i l = any_below (λ j. leb l.slots (retired_at l.words l.p j).slot) l.i ≡ false
