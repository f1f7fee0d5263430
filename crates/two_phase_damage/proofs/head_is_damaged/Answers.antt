-- `head_is_damaged` meets its contract: the shared test, at this kind. Assumes nothing.
use Rattle.std.proofs.Common.{refl}
use Rattle.two_phase_law.specs.Steps.{damage_rules}
use Rattle.two_phase_damage.proofs.head_is_damaged.Goals as goal

pub returns : goal.returns
returns c = λ es l. c.head_damaged_of_kind.ensures damage_rules es refl refl l
