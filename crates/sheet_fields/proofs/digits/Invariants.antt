-- What is read so far stands for the digits before place b-index; a number that 64 bits do not hold only grows. Assumes nothing.
use Rattle.std.proofs.Common.{◌≡◌, ◌≤◌, drop}
use Rattle.calls.specs.Numbers.{number_max}
use Rattle.sheet_law.specs.Reading.{digits as digits_of, at_most}
use Rattle.sheet_fields.proofs.digits.Given as goal

abbrev pub invariant-loop-b : goal.invariant-loop-b
invariant-loop-b l = record {
  fits : l.n ≤ number_max;
  read : at_most number_max (digits_of 0 l.s) ≡ at_most number_max (digits_of l.n (drop l.b-index l.s));
}
