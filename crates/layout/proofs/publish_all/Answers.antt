-- One reader more is one word more (`publish_next`). Assumes nothing.
use Rattle.std.proofs.Common.{rules}
use mathlib.Core.Path.{◌∙◌, sym}
use native.Mathlib.Omega.{arith}
use Rattle.layout.specs.Laws.{publish_next, readers_none}
use Rattle.layout.proofs.publish_all.Goals as goal

pub loop-r-init : goal.loop-r-init
loop-r-init c = (search rules, c.requires ∙ sym (readers_none _ _))

pub loop-r-preserved : goal.loop-r-preserved
loop-r-preserved c = (omega arith, rw c.loop-r.invariant.1 (publish_next _ _))
