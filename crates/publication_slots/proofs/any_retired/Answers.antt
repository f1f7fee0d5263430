-- `any_retired` meets its contract: the loop has found no such publisher before q. Assumes nothing.
use Rattle.std.proofs.Common.{◌≡◌, sym, ◌∙◌, arith, rules}
use Rattle.base.specs.RowLaws.{some_below, none_first, none_more}
use Rattle.publication_slots.proofs.any_retired.Goals as goal

pub loop-q-init : goal.loop-q-init
loop-q-init c = (search rules, λ es. none_first _)

pub has_retired-requires : goal.has_retired-requires
has_retired-requires c = (omega (arith, c.requires.0.publishers_high, rw c.publishers_of-n.ensures at c.loop-q-test.true), c.requires.1 _ (rw c.publishers_of-n.ensures at c.loop-q-test.true))

-- true: publisher q has
pub returns-then-has_retired : goal.returns-then-has_retired
returns-then-has_retired c = λ es. sym (some_below _ _ _ (rw c.publishers_of-n.ensures at c.loop-q-test.true) (sym (c.has_retired.ensures es) ∙ c.if-has_retired.true))

pub loop-q-preserved : goal.loop-q-preserved
loop-q-preserved c = (search rules, λ es. none_more _ _ (c.loop-q.invariant.1 es) (sym (c.has_retired.ensures es) ∙ c.if-has_retired.false))

-- false: none has
pub returns : goal.returns
returns c = λ es. let e : c.loop-q.q ≡ c.publishers_of-n.result = omega arith in sym (rw (e, c.publishers_of-n.ensures) at (c.loop-q.invariant.1 es))
