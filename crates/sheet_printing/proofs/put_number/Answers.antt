-- What is put is the decimal, which has at most twenty digits. Assumes nothing.
use Rattle.sheet_printing.proofs.Puts.{known_as}
use Rattle.sheet_printing.proofs.put_number.Goals as goal

pub returns : goal.returns
returns c = known_as 20 c.spell.ensures.few c.spell.ensures.digits c.put.ensures
