-- `look` meets its contract: by the number of looks, the count and the place, each case a line of `look_at`. Assumes nothing.
use Rattle.two_phase_law.proofs.Calls.{look_spent, look_waits, look_quiet, look_returned}
use Rattle.two_phase_walk.proofs.look.Goals as goal

-- spent
pub returns-then-b-eq0 : goal.returns-then-b-eq0
returns-then-b-eq0 c = look_spent _ c.args.y _ c.if-b-eq0.true

-- waiting
pub returns-then-count-ne0 : goal.returns-then-count-ne0
returns-then-count-ne0 c = rw c.looked_at.ensures (look_waits _ c.args.y _ _ c.look_counted.ensures c.if-b-eq0.false c.if-count-ne0.true)

-- quiet
pub returns-then-y-eq-PLACE_SYNCHRONISING : goal.returns-then-y-eq-PLACE_SYNCHRONISING
returns-then-y-eq-PLACE_SYNCHRONISING c = look_quiet _ c.args.y _ _ c.look_counted-walk.ensures c.if-b-eq0.false c.if-count-ne0.false c.if-y-eq-PLACE_SYNCHRONISING.true

-- returned
pub returns : goal.returns
returns c = look_returned _ c.args.y _ _ c.look_counted-walk.ensures c.if-b-eq0.false c.if-count-ne0.false c.if-y-eq-PLACE_SYNCHRONISING.false
