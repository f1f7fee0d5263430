-- `observe_epoch` meets its contract: `observe_is`, for what was read and written. Assumes nothing.
use mathlib.Core.Path.{refl}
use Rattle.qsbr_law.proofs.Calls.{observe_is}
use Rattle.qsbr_checkpoint.proofs.observe_epoch.Goals as goal

pub returns : goal.returns
returns c = observe_is _ _ _ _ _ c.requires (rw c.put_reader.ensures at c.retirement_at-t.ensures) _ c.reader_at-x.ensures refl (rw c.put_reader.ensures at c.put_retirement.ensures)
