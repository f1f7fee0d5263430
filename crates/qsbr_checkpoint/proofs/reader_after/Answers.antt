-- `reader_after` meets its contract: what was read, put together. Assumes nothing.
use mathlib.Core.Path.{refl}
use Rattle.qsbr_checkpoint.proofs.reader_after.Goals as goal

pub returns : goal.returns
returns c = rw (c.least_of.ensures, c.reader_at-y.ensures, c.reader_at-x.ensures) refl
