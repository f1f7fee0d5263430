-- A text without a leading zero is its digits, and a bound within 64 bits is tested on their number. Assumes nothing.
use Rattle.std.specs.Prelude.{Option}
use Rattle.std.proofs.Common.{ℕ, ◌≡◌, ◌≢◌, ◌<◌, get_or, length, arith, rules, tests, sym, ap, ◌∙◌}
use Rattle.calls.specs.Numbers.{number_max}
use Rattle.sheet_law.specs.Text.{digit_0}
use Rattle.sheet_law.specs.Reading.{digits as digits_of, at_most}
use Rattle.sheet_law.proofs.Widths.{at_most_within}
use Rattle.sheet_fields.proofs.Bytes.{plain_empty, plain_zero, plain_digits}
use Rattle.sheet_fields.proofs.number.Goals as goal
use Rattle.sheet_fields.proofs.number.Goals.{in_default-via-then-s-lt2, in_default-via-else-s-lt2+in_default-1}

-- no number: empty
pub returns-in-empty : goal.returns-in-empty
returns-in-empty c = sym (ap (λ (x : Option ℕ). at_most c.args.most x) (plain_empty c.args.s.now c.in-empty.len_below))

-- no number: a leading zero
pub returns-in-48 : goal.returns-in-48
returns-in-48 c =
    let zero : get_or c.args.s.now 0 0 ≡ digit_0 = search rules in
    sym (ap (λ (x : Option ℕ). at_most c.args.most x) (plain_zero c.args.s.now c.in-48.len_at_least zero))

-- the number of its digits, if it is at most the bound
pub returns-in_default : goal.returns-in_default
returns-in_default c =
    let s = c.args.s.now in
    let within = λ (x : Option ℕ). at_most c.args.most x in
    let kept : c.filter.result ≡ at_most c.args.most c.digits.result = search (rules, tests) in
    let some : 0 < length s = search rules in
    let no_zero : (1 < length s → get_or s 0 0 ≢ digit_0) = elim c.in_default.branch [
      | in_default-via-then-s-lt2 w ↦ λ h. absurd (let short : length s < 2 = search rules in omega arith)
      | in_default-via-else-s-lt2+in_default-1 w ↦ λ h. search rules
    ] in
    kept ∙ ap within c.digits.ensures ∙ at_most_within c.args.most number_max (digits_of 0 s) (omega arith) ∙ ap within (sym (plain_digits s some no_zero))
