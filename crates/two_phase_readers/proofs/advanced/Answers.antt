-- `advanced` meets its contract: by the place, each case a line of `onward`. Assumes nothing.
use Rattle.two_phase_law.proofs.Calls.{onward_loads, onward_arrives, onward_picks}
use Rattle.two_phase_readers.proofs.advanced.Goals as goal

-- to 1
pub returns-in-0 : goal.returns-in-0
returns-in-0 c = onward_loads _ _ c.args.x c.in-0.is

-- to 4
pub returns-in-1 : goal.returns-in-1
returns-in-1 c = onward_arrives _ _ c.args.x c.in-1.is

-- to 5
pub returns-in_default : goal.returns-in_default
returns-in_default c = let q = c.in_default.in_default-own.rest in onward_picks _ _ c.args.x q.0.1 q.1
