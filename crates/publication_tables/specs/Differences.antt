-- The difference of two pitches in range is a number of their type. Assumes nothing.
use Rattle.std.specs.Prelude.{ℕ, zero, suc, ◌+◌, ◌-◌, ◌<◌, ◌≤◌, ◌≡◌, Bool, true, false, cond, ℤ, pos, negsuc, nat_abs, ◌-ℤ◌, ltb}
use Rattle.std.proofs.Common.{arith}
use Rattle.std.proofs.Math.IntN.{sub_ℕ}
use Rattle.std.specs.Int.Signed.{mag}
use Rattle.calls.specs.Numbers.{pitch_high, pitch_half}
use Rattle.calls.specs.FirstTable.{out_of_range}
use Rattle.calls.specs.RangeLaws.{InRange, in_range_exactly}

-- How far the range goes up from 0, which is further than down.
abbrev UP : ℕ
UP = nat_abs pitch_high

sub_low : (a b : ℕ) → a ≤ UP → b ≤ UP + 1 → mag (sub_ℕ a b) < pitch_half
sub_low a b la lb = go (ltb a b)
  where
    go : (t : Bool) → mag (cond t (negsuc (b - suc a)) (pos (a - b))) < pitch_half
    go true = omega arith
    go false = omega arith

low_difference : (v w : ℤ) → InRange v → InRange w → mag (v -ℤ w) < pitch_half
low_difference (pos a) (pos zero) la lb = omega arith
low_difference (pos a) (pos (suc b)) la lb = sub_low a (suc b) la (omega arith)
low_difference (pos a) (negsuc b) la lb = omega arith
low_difference (negsuc a) (pos zero) la lb = sub_low 0 (suc a) (omega arith) (omega arith)
low_difference (negsuc a) (pos (suc b)) la lb = omega arith
low_difference (negsuc a) (negsuc b) la lb = sub_low (suc b) (suc a) (omega arith) (omega arith)

pub difference_fits : (v w : ℤ) → out_of_range v ≡ false → out_of_range w ≡ false → mag (v -ℤ w) < pitch_half
difference_fits v w e f = low_difference v w ((in_range_exactly v).0 e) ((in_range_exactly w).0 f)
