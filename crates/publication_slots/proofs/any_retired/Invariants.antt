-- `any_retired` meets its contract: the loop has found no such publisher before q. Assumes nothing.
use Rattle.std.proofs.Common.{◌≡◌, ◌-◌, ◌≤◌, false, List, ℤ}
use Rattle.base.specs.Rows.{any_below}
use Rattle.statement.specs.Machine.{state, retired_slot}
use Rattle.publication_slots.proofs.any_retired.Given as goal

abbrev pub invariant-loop-q : goal.invariant-loop-q
invariant-loop-q l = (l.q ≤ l.n) × ((es : List ℤ) → any_below (λ q'. retired_slot (state l.words es) q' l.slot) l.q ≡ false)

abbrev pub decreases-loop-q : goal.decreases-loop-q
decreases-loop-q l = l.n - l.q
