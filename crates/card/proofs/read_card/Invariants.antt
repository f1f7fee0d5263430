-- The lines before the text that is left are read, and their entries are put as far as there is room: a turn is one line. Assumes nothing.
use Rattle.std.proofs.Common.{length}
use Rattle.card.proofs.Turns.{Going}
use Rattle.card.proofs.read_card.Given as goal

abbrev pub invariant-loop-rest : goal.invariant-loop-rest
invariant-loop-rest l = Going l.bytes l.rest l.line l.room l.count

abbrev pub decreases-loop-rest : goal.decreases-loop-rest
decreases-loop-rest l = length l.rest
