-- A pitch in the machine's bits: what is read back from them is the pitch, at its own width and at 64 bits; its size, 0 - v where v is negative, has 64 bits.
-- Assumes nothing.
use Rattle.std.specs.Prelude.{ℕ, ◌*◌, ◌-◌, ◌^◌, ◌<◌, ◌≡◌, refl, true, false, ℤ, pos, negsuc, ◌-ℤ◌, nat_abs, T}
use Rattle.std.proofs.Common.{arith, ap, ◌∙◌, ltb-true, SFits, Fits, to_z, of_z}
use Rattle.std.specs.Int.Signed.{mag, lt_z, non_neg}
use Rattle.std.specs.Int.{Width, w32, w64}
use Rattle.std.proofs.lemmas.Int.{to_z-of_z}
use Rattle.base.specs.RowLaws.{clash}
use Rattle.calls.specs.Numbers.{pitch_bits, pitch_bytes, pitch_half}

-- pitch_bits, as the machine has it.
abbrev pub pitch_width : Width
pitch_width = w32

-- pitch_half is half of the numbers that so many bits hold.
pub half_of_bits : pitch_half ≡ 2 ^ (pitch_bits - 1)
half_of_bits = refl

pub bits_of_bytes : pitch_bits ≡ 8 * pitch_bytes
bits_of_bytes = refl

-- What the machine reads from the bits of a pitch.
abbrev pub in_bits : ℤ → ℤ
in_bits v = to_z pitch_width (of_z pitch_width v)

abbrev pub in_wide_bits : ℤ → ℤ
in_wide_bits v = to_z w64 (of_z w64 v)

pub pitch_back : (v : ℤ) → mag v < pitch_half → in_bits v ≡ v
pitch_back v l = to_z-of_z pitch_width v (record { sfits = l })

-- What a cast to u64 asks.
abbrev Cast : ℤ → Type 0
Cast v = T (non_neg v) × Fits w64 (nat_abs v)

-- A pitch below 0, taken from 0.
record Away (v : ℤ) : Type 0 where
  fits : SFits w64 (pos 0 -ℤ v)
  cast : Cast (pos 0 -ℤ v)
  same : nat_abs (pos 0 -ℤ v) ≡ nat_abs v

away : (v : ℤ) → mag v < pitch_half → lt_z v (pos 0) ≡ true → Away v
away (pos n) l t = absurd (omega (arith, ltb-true n 0 t))
away (negsuc n) l t = record { fits = record { sfits = omega arith }; cast = (tt, record { fits = omega arith }); same = omega arith }

not_below : (v : ℤ) → mag v < pitch_half → lt_z v (pos 0) ≡ false → Cast v
not_below (pos n) l t = (tt, record { fits = omega arith })
not_below (negsuc n) l t = clash t

-- The size of a pitch in 64 bits, as the code takes it: of a pitch below 0, and of one from 0 up.
module _ (v : ℤ) (l : mag v < pitch_half) where
  pub wide : SFits w64 v
  wide = record { sfits = go (mag v) l }
    where
      go : (n : ℕ) → n < pitch_half → n < 9223372036854775808
      go n l = omega arith

  pub widens : SFits w64 (in_bits v)
  widens = rw (pitch_back v l) wide

  wide_back : in_wide_bits (in_bits v) ≡ v
  wide_back = ap in_wide_bits (pitch_back v l) ∙ to_z-of_z w64 v wide

  module _ (t : lt_z (in_bits v) (pos 0) ≡ true) where
    below : Away v
    below = away v l (rw (pitch_back v l) at t)

    pub away_fits : SFits w64 (pos 0 -ℤ in_wide_bits (in_bits v))
    away_fits = rw wide_back below.fits

    pub away_cast : Cast (in_wide_bits (pos 0 -ℤ in_wide_bits (in_bits v)))
    away_cast = rw (wide_back, to_z-of_z w64 (pos 0 -ℤ v) below.fits) below.cast

    pub away_size : nat_abs (in_wide_bits (pos 0 -ℤ in_wide_bits (in_bits v))) ≡ nat_abs v
    away_size = rw (wide_back, to_z-of_z w64 (pos 0 -ℤ v) below.fits) below.same

  pub plain_cast : lt_z (in_bits v) (pos 0) ≡ false → Cast (in_bits v)
  plain_cast t = rw (pitch_back v l) (not_below v l (rw (pitch_back v l) at t))

  pub plain_size : nat_abs (in_bits v) ≡ nat_abs v
  plain_size = ap nat_abs (pitch_back v l)
