-- `raise_epoch` meets its contract: `raise_epoch_is`, for what was read and written. Assumes nothing.
use mathlib.Core.Path.{refl}
use Rattle.qsbr_law.proofs.Calls.{raise_epoch_is}
use Rattle.qsbr_deferral.proofs.raise_epoch.Goals as goal

pub returns : goal.returns
returns c = raise_epoch_is _ _ _ _ _ c.reader_at-x.ensures c.publisher_at-y.ensures _ (rw c.version_of-version.ensures refl) (rw (c.put_publisher.ensures, c.put_reader.ensures) at c.put_version.ensures)
