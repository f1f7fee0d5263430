-- The iterator looks at the publishers that the store has. Assumes nothing.
use Rattle.std.proofs.Common.{rules}
use Rattle.base.specs.Ranges.{any_of_range}
use Rattle.publication_slots.proofs.another_busy.Goals as goal

pub returns : goal.returns
returns c = λ es. any_of_range _ _ _ _ c.any.ensures.ran c.publishers_of.ensures (λ x b q k. search rules)
