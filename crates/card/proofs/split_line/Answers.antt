-- The first newline, or the end, ends the first line. Assumes nothing.
use Rattle.std.proofs.Common.{◌∷◌, ap₂, sym, ◌∙◌}
use Rattle.lines_law.specs.Lines.{lines_of}
use Rattle.card.proofs.Turns.{first_line}
use Rattle.card.proofs.split_line.Goals as goal

pub returns-clause-lines : goal.returns-clause-lines
returns-clause-lines c = λ some. first_line c.args.text.now some ∙ sym (ap₂ (λ l after. l ∷ lines_of after) c.split_at_byte.ensures.before c.split_at_byte.ensures.after)
