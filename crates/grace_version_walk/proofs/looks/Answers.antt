-- `looks` meets its contract: the looks still to come are those of `looks_from` at the numbers that the loop has reached. Assumes nothing.
use Rattle.std.proofs.Common.{rules, arith, refl, sym, ◌∙◌}
use Rattle.grace_version_law.proofs.Calls.{looks_spent, looks_wait, looks_return, looks_on_lem}
use Rattle.grace_version_walk.proofs.looks.Goals as goal

pub loop-left-preserved : goal.loop-left-preserved
loop-left-preserved c = let is = c.look_counted-walk-in-loop-left.ensures in let k = c.loop-left in (
  omega arith,
  rw is (omega (arith, k.invariant.1)),
  rw is (omega (arith, k.invariant.2)),
  k.invariant.3 ∙ looks_on_lem _ _ _ _ _ (omega arith) is (rw (c.reader_at-x.ensures, c.looked_at-r.ensures) at c.if-x-walk.false) (omega arith),
)

-- spent
pub returns-then-left-eq0 : goal.returns-then-left-eq0
returns-then-left-eq0 c = sym (c.loop-left.invariant.3 ∙ looks_spent _ _ _ _ (omega arith))

-- waiting
pub returns-then-x-walk : goal.returns-then-x-walk
returns-then-x-walk c = rw c.looked_at-r.ensures (sym (c.loop-left.invariant.3 ∙ looks_wait _ _ _ _ _ (omega arith) c.look_counted-walk.ensures (rw (c.reader_at-x.ensures, c.looked_at-r.ensures) at c.if-x-walk.true)))

-- returned
pub returns-then-walk-n : goal.returns-then-walk-n
returns-then-walk-n c = sym (c.loop-left.invariant.3 ∙ looks_return _ _ _ _ _ (omega arith) c.look_counted-walk-in-loop-left.ensures (rw (c.reader_at-x.ensures, c.looked_at-r.ensures) at c.if-x-walk.false) (omega arith))
