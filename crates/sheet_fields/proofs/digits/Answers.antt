-- What is read so far stands for the digits before place b-index; a number that 64 bits do not hold only grows. Assumes nothing.
use Rattle.std.specs.Prelude.{Option}
use Rattle.std.proofs.Common.{ℕ, arith, ◌+◌, drop, sym, ap, ◌∙◌}
use Rattle.calls.specs.Numbers.{number_max}
use Rattle.sheet_law.specs.Reading.{digits as digits_of, at_most}
use Rattle.sheet_law.proofs.Widths.{at_most_decimal}
use Rattle.sheet_fields.proofs.Bytes.{digits_bad, digits_next, digits_end, too_wide}
use Rattle.sheet_fields.proofs.digits.Goals as goal

abbrev fitting : Option ℕ → Option ℕ
fitting x = at_most number_max x

-- no number: a byte that is no digit
pub returns-then-not-is_ascii_digit : goal.returns-then-not-is_ascii_digit
returns-then-not-is_ascii_digit c = let k = c.loop-b in
    sym (k.invariant.read ∙ ap fitting (digits_bad _ k.b-index k.n c.loop-b-test.true c.if-not-is_ascii_digit.ensures.cases))

-- no number: 64 bits do not hold it
pub returns-in_err-checked_mul : goal.returns-in_err-checked_mul
returns-in_err-checked_mul c = let k = c.loop-b in
    c.from_residual.ensures ∙ sym (k.invariant.read ∙ ap fitting (digits_next _ k.b-index k.n c.loop-b-test.true c.if-not-is_ascii_digit.ensures.cases) ∙ too_wide number_max _ _ (omega (arith, c.in_err-checked_mul.ensures)))

pub returns-in_err-n : goal.returns-in_err-n
returns-in_err-n c = let k = c.loop-b in
    c.from_residual-in_err-n.ensures ∙ sym (k.invariant.read ∙ ap fitting (digits_next _ k.b-index k.n c.loop-b-test.true c.if-not-is_ascii_digit.ensures.cases) ∙ too_wide number_max _ _ (omega (arith, c.in_err-n.ensures)))

pub loop-b-preserved : goal.loop-b-preserved
loop-b-preserved c = let k = c.loop-b in record {
  fits = omega (arith, c.in_ok-n.ensures);
  read = k.invariant.read ∙ ap fitting (digits_next _ k.b-index k.n c.loop-b-test.true c.if-not-is_ascii_digit.ensures.cases ∙ ap (λ n. digits_of n (drop (k.b-index + 1) c.args.s.now)) (omega (arith, c.in_ok-n.ensures, c.in_ok-checked_mul.ensures)));
}

-- the number: all digits are read
pub returns : goal.returns
returns c = let k = c.loop-b in
    sym (k.invariant.read ∙ ap fitting (digits_end _ k.b-index k.n c.loop-b-test.false) ∙ at_most_decimal number_max k.n k.invariant.fits)
