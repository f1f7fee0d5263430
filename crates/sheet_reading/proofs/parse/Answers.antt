-- The word and the arguments that stand between the brackets are the definition's. Assumes nothing.
use Rattle.std.specs.Prelude.{Option}
use Rattle.std.proofs.Common.{List, ℕ, ◌-◌, ◌≡◌, Some, get_or, length, rules, sym, ap, ◌∙◌}
use Rattle.sheet_law.specs.declared.Keyword.{Keyword}
use Rattle.sheet_law.specs.Text.{open_bracket, close_bracket}
use Rattle.sheet_law.specs.Reading.{up_to_space, after_space, if_read, keyword as keyword_of, command as command_of}
use Rattle.sheet_reading.proofs.Lines.{between, line_whole}
use Rattle.sheet_reading.proofs.parse.Goals as goal

pub returns : goal.returns
returns c =
    let l = c.args.line.now in
    let word = c.in_ok-keyword.field-0 in
    let opened : get_or l 0 0 ≡ open_bracket = search rules in
    let closed : get_or l (length l - 1) 0 ≡ close_bracket = search rules in
    let named : keyword_of (up_to_space (between l)) ≡ Some word = ap (λ (t : List ℕ). keyword_of t) (sym c.split_at_space.ensures.before) ∙ sym c.in_ok-keyword.ensures in
    c.command.ensures
    ∙ ap (λ (t : List ℕ). command_of word t) c.split_at_space.ensures.after
    ∙ sym (line_whole l c.if-line-gt-LINE_MAX.false c.in-40.len_at_least opened closed ∙ ap (λ (w : Option Keyword). if_read w (λ k. command_of k (after_space (between l)))) named)
