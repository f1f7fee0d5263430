-- `end_checkpoint` meets its contract: with no slot retired none is freed; else it is what free_due did. Assumes nothing.
use mathlib.Core.Path.{◌∙◌}
use Rattle.qsbr_law.proofs.Calls.{freed_none, freed_some}
use Rattle.qsbr_checkpoint.proofs.end_checkpoint.Goals as goal

-- none is retired
pub returns-then-count-eq0 : goal.returns-then-count-eq0
returns-then-count-eq0 c = c.put_retirement.ensures ∙ freed_none _ _ _ _ c.if-count-eq0.true

-- some are
pub returns : goal.returns
returns c = c.put_retirement-2.ensures ∙ freed_some _ _ _ _ _ _ c.free_due-kept.ensures
