-- At every byte the state and the output are what the bytes so far make of them, and what is taken in all is these and what is taken of the rest. Assumes nothing.
use Rattle.sheet.specs.Feeds.{SameLent, sheet_state_of}
use Rattle.sheet.proofs.Turns.{Going}
use Rattle.sheet.proofs.Sheet.feed.Given as goal

abbrev pub invariant-loop-used : goal.invariant-loop-used
invariant-loop-used l = record {
  lent : SameLent l.initial.self l.self;
  going : Going l.table (sheet_state_of l.initial.self) l.input l.used (sheet_state_of l.self) l.initial.out l.out l.made;
}
