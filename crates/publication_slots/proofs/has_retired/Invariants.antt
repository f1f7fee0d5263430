-- `has_retired` meets its contract: the loop has found the slot in no pair before i. Assumes nothing.
use Rattle.std.proofs.Common.{◌≡◌, ◌-◌, ◌≤◌, false, eqb}
use Rattle.base.specs.Rows.{any_below}
use Rattle.layout.specs.Layout.{retired_at}
use Rattle.publication_slots.proofs.has_retired.Given as goal

abbrev pub invariant-loop-i : goal.invariant-loop-i
invariant-loop-i l = (l.i ≤ l.n) × (any_below (λ i'. eqb (retired_at l.words l.q i').slot l.slot) l.i ≡ false)

abbrev pub decreases-loop-i : goal.decreases-loop-i
decreases-loop-i l = l.n - l.i
