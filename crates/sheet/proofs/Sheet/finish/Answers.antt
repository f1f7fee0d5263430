-- Where no line was begun, nothing is left to say. Assumes nothing.
use Rattle.std.proofs.Common.{refl, sym, ◌∙◌}
use Rattle.sheet.proofs.Turns.{begins, at_the_end}
use Rattle.sheet.proofs.Sheet.finish.Goals as goal

pub returns-then-is_empty-clause-feeds : goal.returns-then-is_empty-clause-feeds
returns-then-is_empty-clause-feeds c = rw (sym c.is_empty.ensures ∙ c.if-is_empty.true) (at_the_end (begins _ _ _ _) refl)
