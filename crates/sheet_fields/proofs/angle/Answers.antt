-- The first byte tells whether a minus stands before the size. Assumes nothing.
use Rattle.std.specs.Prelude.{List}
use Rattle.std.proofs.Common.{ℕ, ◌≡◌, ◌≢◌, ◌<◌, get_or, length, arith, rules, sym, ap, ◌∙◌}
use Rattle.calls.specs.Numbers.{pitch_half}
use Rattle.sheet_law.specs.Text.{minus_byte}
use Rattle.sheet_law.specs.Reading.{plain, at_most, negative as negative_of}
use Rattle.sheet_law.proofs.Widths.{tail}
use Rattle.sheet_fields.proofs.Bytes.{angle_minus, angle_plain}
use Rattle.sheet_fields.proofs.angle.Goals as goal
use Rattle.sheet_fields.proofs.angle.Goals.{in_default-via-then-s-lt1, in_default-via-else-s-lt1+in_default-1}

-- after a minus
pub returns-in-45 : goal.returns-in-45
returns-in-45 c =
    let s = c.args.s.now in
    let minus : get_or s 0 0 ≡ minus_byte = search rules in
    c.negative.ensures ∙ ap (λ (l : List ℕ). negative_of (at_most pitch_half (plain l))) (tail 1 s) ∙ sym (angle_minus s c.in-45.len_at_least minus)

-- without a minus
pub returns-in_default : goal.returns-in_default
returns-in_default c =
    let s = c.args.s.now in
    let no_minus : (0 < length s → get_or s 0 0 ≢ minus_byte) = elim c.in_default.branch [
      | in_default-via-then-s-lt1 w ↦ λ h. absurd (let short : length s < 1 = search rules in omega arith)
      | in_default-via-else-s-lt1+in_default-1 w ↦ λ h. search rules
    ] in
    c.positive.ensures ∙ sym (angle_plain s no_minus)
