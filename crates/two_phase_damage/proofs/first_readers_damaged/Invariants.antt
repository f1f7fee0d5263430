-- `first_readers_damaged` meets its contract: the loop has found no damaged reader before r, and has counted those before r by parity. Assumes nothing.
use Rattle.std.proofs.Common.{◌≡◌, false}
use Rattle.base.specs.Rows.{any_below}
use Rattle.layout.specs.Layout.{reader_at}
use Rattle.two_phase_law.specs.Steps.{damage_rules}
use Rattle.two_phase_law.specs.Calls.{added_counts}
use Rattle.two_phase_damage.proofs.first_readers_damaged.Given as goal

abbrev pub invariant-loop-r : goal.invariant-loop-r
invariant-loop-r l = (any_below (λ r'. damage_rules.reader_damaged l.n l.slots (reader_at l.words r')) l.r ≡ false) × (l.counts ≡ added_counts l.words l.r)
