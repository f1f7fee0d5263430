-- A number's digits are written from the last to the first, and a power of ten bounds how many are still to come. Assumes nothing.
use Prim.Native.Nat.{ℕ, zero, suc, ◌+◌, ◌-◌, ◌/◌, ◌*◌, ◌^◌, ◌≤◌, ◌<◌}
use native.Mathlib.Nat.{pow-suc}
use native.Mathlib.Numerals.{sub-one}
use native.Mathlib.Omega.{arith}
use mathlib.Core.Path.{◌≡◌, refl, sym, ap, ◌∙◌}
use mathlib.Core.List.{List, ◌∷◌}
use lib.ListN.{length, set, drop}
use Rattle.std.proofs.lemmas.List.{drop-set}
use Rattle.sheet_law.specs.Text.{last_digit, digits_before, decimal}
use Rattle.sheet_law.proofs.Decimals.{spell_last, spell_next}

-- The tenth of a number has a digit less, so a tenth that is not 0 has room left.
pub tenth : (n x : ℕ) → x < 10 ^ n → x / 10 < 10 ^ (n - 1)
tenth zero x h = omega arith
tenth (suc n) x h = let k : x < 10 ^ n * 10 = rw pow-suc at h in rw sub-one (omega arith)

pub room_left : (n x : ℕ) → x < 10 ^ n → (x / 10 ≡ 0 → ⊥) → 1 < n
room_left zero x h e = absurd (e (omega arith))
room_left (suc zero) x h e = absurd (e (omega arith))
room_left (suc (suc n)) x h e = omega arith

-- The digits of n are those of what is left before those that stand from a place on; its last digit is written before them.
module _ (n left : ℕ) (l : List ℕ) (place v : ℕ) (low : 0 < place) (high : place ≤ length l) (e : v ≡ last_digit left) (inv : digits_before (suc left) left (drop place l) ≡ decimal n) where
  written : drop (place - 1) (set l (place - 1) v) ≡ last_digit left ∷ drop place l
  written =
      let same : place - 1 + 1 ≡ place = omega arith in
      drop-set l (place - 1) v (omega arith) ∙ rw (same, e) refl

  pub spelled_next : (left / 10 ≡ 0 → ⊥) → digits_before (suc (left / 10)) (left / 10) (drop (place - 1) (set l (place - 1) v)) ≡ decimal n
  spelled_next more = ap (digits_before (suc (left / 10)) (left / 10)) written ∙ sym (spell_next left (drop place l) more) ∙ inv

  pub spelled_last : left / 10 ≡ 0 → drop (place - 1) (set l (place - 1) v) ≡ decimal n
  spelled_last last = written ∙ sym (spell_last left (drop place l) last) ∙ inv
