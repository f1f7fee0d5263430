-- `participants_are_damaged` meets its contract: the loop has found no damaged participant before p. Assumes nothing.
use Rattle.std.proofs.Common.{◌≡◌, false}
use Rattle.base.specs.Rows.{any_below}
use Rattle.qsbr_law.specs.Calls.{participant_fails}
use Rattle.qsbr_damage.proofs.participants_are_damaged.Given as goal

abbrev pub invariant-loop-p : goal.invariant-loop-p
invariant-loop-p l = any_below (participant_fails l.words l.n l.slots) l.p ≡ false
