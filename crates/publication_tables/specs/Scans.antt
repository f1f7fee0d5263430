-- A scan of a row as a loop makes it, of pitches as the machine reads them. Assumes nothing.
use Rattle.std.specs.Prelude.{ℕ, ◌+◌, ◌<◌, ◌≡◌, Bool, ◌||◌, ℤ}
use Rattle.std.proofs.Common.{refl, sym}
use Rattle.std.specs.Int.Signed.{mag}
use Rattle.base.specs.Rows.{any_below}
use Rattle.base.specs.RowLaws.{any_more}
use Rattle.calls.specs.Numbers.{pitch_half}
use Rattle.calls.specs.FirstTable.{out_of_range, steep}
use Rattle.calls.specs.PitchLaws.{in_bits, pitch_back}

-- One number more: a says whether the test holds of one before i, and b whether it holds of i.
pub scan_more : (f : ℕ → Bool) (i : ℕ) (a b : Bool) → a ≡ any_below f i → b ≡ f i → (a || b) ≡ any_below f (i + 1)
scan_more f i a b e h = rw (e, h) (sym (any_more f i))

-- The tests of pitches that are read.
pub out_of_range_read : (v u : ℤ) → mag v < pitch_half → v ≡ u → out_of_range (in_bits v) ≡ out_of_range u
out_of_range_read v u l e = rw (pitch_back v l, e) refl

pub steep_read : (v w v' w' : ℤ) → mag v < pitch_half → mag w < pitch_half → v ≡ v' → w ≡ w' → steep (in_bits v) (in_bits w) ≡ steep v' w'
steep_read v w v' w' l m e f = rw (pitch_back v l, pitch_back w m, e, f) refl
