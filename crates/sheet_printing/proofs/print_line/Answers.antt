-- The parts of a line one after another, where the longest line fits. Assumes nothing.
use native.Mathlib.Omega.{arith}
use mathlib.Core.Path.{sym, ◌∙◌}
use borrow.Author.Tests.{leb-true}
use Rattle.sheet_printing.proofs.Puts.{then}
use Rattle.sheet_printing.proofs.print_line.Goals as goal

-- the line is printed
pub returns : goal.returns
returns c = record {
  put = λ _. then c.put_one-next.ensures (then c.put-next.ensures (then c.put_answer-end.ensures c.put.ensures));
  full = λ k. absurd (omega (arith, leb-true _ _ (sym c.fits.ensures ∙ c.if-not-fits.false)));
}
