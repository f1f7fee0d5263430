-- `queue_slot` meets its contract: `queue_is`, for what was read and written. Assumes nothing.
use Rattle.std.proofs.Common.{rules}
use native.Mathlib.Omega.{arith}
use Rattle.qsbr_law.proofs.Calls.{queue_is}
use Rattle.qsbr_deferral.proofs.queue_slot.Goals as goal

pub overflow_add-t : goal.overflow_add-t
overflow_add-t c = rw c.retirement_at-t.ensures (omega (arith, c.requires))

pub put_retired-requires : goal.put_retired-requires
put_retired-requires c = rw c.retirement_at-t.ensures (c.requires.0, c.requires.1)

pub returns : goal.returns
returns c = queue_is _ _ _ _ _ c.reader_at-x.ensures c.publisher_at-y.ensures _ c.retirement_at-t.ensures (rw (c.put_retired.ensures, c.put_publisher.ensures, c.put_reader.ensures) at c.put_retirement.ensures)
