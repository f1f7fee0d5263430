-- The word, and then the number. Assumes nothing.
use Rattle.sheet_printing.proofs.Puts.{then}
use Rattle.sheet_printing.proofs.put_one.Goals as goal

pub returns : goal.returns
returns c = then c.put-next.ensures c.put_number.ensures
