-- `load_epoch` meets its contract: `load_is`, for what was read and written. Assumes nothing.
use mathlib.Core.Path.{refl}
use Rattle.qsbr_law.proofs.Calls.{load_is}
use Rattle.qsbr_checkpoint.proofs.load_epoch.Goals as goal

pub returns : goal.returns
returns c = load_is _ _ _ _ _ c.requires (rw c.put_reader.ensures at c.retirement_at-t.ensures) _ _ c.reader_at-x.ensures c.version_of.ensures refl (rw c.put_reader.ensures at c.put_retirement.ensures)
