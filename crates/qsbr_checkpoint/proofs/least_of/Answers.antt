-- `least_of` meets its contract: the three cases of `least_of`. Assumes nothing.
use Rattle.qsbr_law.proofs.Calls.{least_starts, least_lower, least_stays}
use Rattle.qsbr_checkpoint.proofs.least_of.Goals as goal

-- the first read
pub returns-then-step-eq2 : goal.returns-then-step-eq2
returns-then-step-eq2 c = least_starts _ _ _ c.if-step-eq2.true

-- a lesser one
pub returns-then-read-least : goal.returns-then-read-least
returns-then-read-least c = least_lower _ _ _ c.if-step-eq2.false c.if-read-least.true

-- one that is not
pub returns : goal.returns
returns c = least_stays _ _ _ c.if-step-eq2.false c.if-read-least.false
