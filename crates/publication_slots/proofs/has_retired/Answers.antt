-- `has_retired` meets its contract: the loop has found the slot in no pair before i. Assumes nothing.
use Rattle.std.proofs.Common.{◌≡◌, sym, arith, rules, eq-eqb, ne_eqb}
use Rattle.base.specs.RowLaws.{some_below, none_first, none_more}
use Rattle.publication_slots.proofs.has_retired.Goals as goal

pub retirement_at-t-requires : goal.retirement_at-t-requires
retirement_at-t-requires c = c.requires.0

pub loop-i-init : goal.loop-i-init
loop-i-init c = (search rules, none_first _)

pub retired_at-d-requires : goal.retired_at-d-requires
retired_at-d-requires c = (c.requires.0, omega (arith, c.requires.1, rw c.retirement_at-t.ensures at c.loop-i-test.true))

-- true: slot i of its retired ones is it
pub returns-then-d-slot : goal.returns-then-d-slot
returns-then-d-slot c = λ es. sym (some_below _ _ _ (rw c.retirement_at-t.ensures at c.loop-i-test.true) (eq-eqb _ _ (rw c.retired_at-d.ensures at c.if-d-slot.true)))

pub loop-i-preserved : goal.loop-i-preserved
loop-i-preserved c = (search rules, none_more _ _ c.loop-i.invariant.1 (ne_eqb _ _ (rw c.retired_at-d.ensures at c.if-d-slot.false)))

-- false: none is
pub returns : goal.returns
returns c = λ es. let e : c.loop-i.i ≡ c.retirement_at-t.result.count = omega arith in sym (rw (e, c.retirement_at-t.ensures) at c.loop-i.invariant.1)
