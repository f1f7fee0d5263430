-- The word and a number, and then a space and the other one. Assumes nothing.
use native.Mathlib.Omega.{arith}
use mathlib.Core.Path.{refl}
use Rattle.sheet_printing.proofs.Puts.{then, known_as}
use Rattle.sheet_printing.proofs.put_two.Goals as goal

pub returns : goal.returns
returns c = known_as _ (omega arith) refl (then c.put_one-next.ensures c.put_one.ensures)
