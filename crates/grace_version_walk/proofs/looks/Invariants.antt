-- `looks` meets its contract: the looks still to come are those of `looks_from` at the numbers that the loop has reached. Assumes nothing.
use Rattle.std.proofs.Common.{◌≡◌, ◌+◌, ◌<◌, ◌≤◌}
use Rattle.calls.specs.Numbers.{number_max}
use Rattle.grace_version_law.specs.Steps.{looks_from}
use Rattle.grace_version_walk.proofs.looks.Given as goal

abbrev pub invariant-loop-left : goal.invariant-loop-left
invariant-loop-left l = (l.walk.next < l.n) × (l.walk.looks + l.left ≤ number_max) × (l.walk.waits ≤ l.walk.looks)
    × (looks_from l.words l.n l.initial.walk.mark l.initial.walk.waits l.initial.left l.initial.walk.next l.initial.walk.looks ≡ looks_from l.words l.n l.walk.mark l.walk.waits l.left l.walk.next l.walk.looks)

abbrev pub decreases-loop-left : goal.decreases-loop-left
decreases-loop-left l = l.left
