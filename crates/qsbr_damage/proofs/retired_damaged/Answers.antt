-- `retired_damaged` meets its contract: the loop has found no retired slot before i that is none of the store. Assumes nothing.
use Rattle.std.proofs.Common.{arith, ◌≡◌, sym, le-leb}
use Rattle.std.proofs.lemmas.Bool.{lt-leb}
use Rattle.base.specs.RowLaws.{some_below, none_first, none_more}
use Rattle.qsbr_damage.proofs.retired_damaged.Goals as goal

pub loop-i-init : goal.loop-i-init
loop-i-init c = none_first _

-- true: retired slot i is no slot of the store
pub returns-then-d-slots : goal.returns-then-d-slots
returns-then-d-slots c = sym (some_below _ _ _ c.loop-i-test.true (le-leb _ _ (rw c.retired_at-d.ensures at c.if-d-slots.true)))

pub loop-i-preserved : goal.loop-i-preserved
loop-i-preserved c = none_more _ _ c.loop-i.invariant (lt-leb _ _ (rw c.retired_at-d.ensures at c.if-d-slots.false))

-- false: all are
pub returns : goal.returns
returns c = let e : c.loop-i.i ≡ c.args.n = omega arith in sym (rw e at c.loop-i.invariant)
