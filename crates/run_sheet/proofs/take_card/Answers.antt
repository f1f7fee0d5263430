-- A card that cannot be read is one of no bytes. Assumes nothing.
use Rattle.std.proofs.Common.{refl, arith}
use Rattle.run_sheet.proofs.Parts.{empty_card}
use Rattle.run_sheet.proofs.take_card.Goals as goal

pub returns-in-Err : goal.returns-in-Err
returns-in-Err g c = record { read = omega arith; within = omega arith; entries = rw empty_card refl }
