-- Each turn feeds some of what is left of the read, and the state is what the bytes fed so far make of it. Assumes nothing.
use Rattle.std.proofs.Common.{◌≤◌, length}
use Rattle.sheet_law.specs.Printing.{printed_max}
use Rattle.sheet.specs.Feeds.{SameLent, sheet_state_of}
use Rattle.run_sheet.proofs.Parts.{FedUpTo}
use Rattle.run_sheet.proofs.feed_read.Given as goal

abbrev pub invariant-loop-rest : goal.invariant-loop-rest
invariant-loop-rest g l = record {
  room : printed_max ≤ length l.out;
  lent : SameLent l.fn.sheet l.sheet;
  fed_so_far : FedUpTo l.sheet.table.now (sheet_state_of l.fn.sheet) l.input l.rest (sheet_state_of l.sheet);
}

abbrev pub decreases-loop-rest : goal.decreases-loop-rest
decreases-loop-rest g l = length l.rest
