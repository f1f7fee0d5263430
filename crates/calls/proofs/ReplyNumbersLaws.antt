-- Two different replies, with pitches of 64 bits and refusals below 100, never have the same three numbers: a reply can be read back. Assumes nothing.
use Rattle.std.specs.Prelude.{ℕ, ◌-◌, ◌<◌, ◌≡◌, refl, ℤ, pos, negsuc}
use Rattle.std.proofs.Common.{arith, sym, ap, ◌∙◌, ne_eqb, lt-ltb, le-ltb}
use Rattle.calls.specs.declared.Reply.{Reply}
use Rattle.calls.specs.declared.Reply.TheVariants.{Made, At, Pitch, Left, Claimed, Written, Swapped, Synced, Raised, Shared, Walked, Freed, Refused, Picked}
use Rattle.calls.specs.declared.WalkReply.{WalkReply}
use Rattle.calls.specs.declared.WalkReply.TheVariants.{Waiting, Spent, Quiet, Returned}
use Rattle.calls.specs.Numbers.{number_max}
use Rattle.calls.specs.ReplyNumbers.{reply_numbers, numbers_of, walk_numbers, pitch_number}
use Rattle.calls.specs.ReplyNumbersLaws.{HALF, pitch_of, reply_of, PitchFitsWord, Representable}

pitch_back : (v : ℤ) → PitchFitsWord v → pitch_of (pitch_number v) ≡ v
pitch_back (pos n) l = rw (lt-ltb n HALF l) refl
pitch_back (negsuc n) l =
    let e : number_max - (number_max - n) ≡ n = omega arith in
    rw (le-ltb (number_max - n) HALF (omega arith), e) refl

walk_back : (walked : WalkReply) → reply_of (walk_numbers walked) ≡ Walked walked
walk_back (Waiting awaited) = refl
walk_back Spent = refl
walk_back Quiet = refl
walk_back (Returned looks waits) = refl

refused_back : (n : ℕ) → n < 100 → reply_of (reply_numbers n 0 0) ≡ Refused n
refused_back n l =
    rw (
      ne_eqb n 100 (λ z. omega arith),
      ne_eqb n 101 (λ z. omega arith),
      ne_eqb n 102 (λ z. omega arith),
      ne_eqb n 103 (λ z. omega arith),
      ne_eqb n 104 (λ z. omega arith),
      ne_eqb n 105 (λ z. omega arith),
      ne_eqb n 106 (λ z. omega arith),
      ne_eqb n 107 (λ z. omega arith),
      ne_eqb n 108 (λ z. omega arith),
      ne_eqb n 109 (λ z. omega arith),
      ne_eqb n 110 (λ z. omega arith),
      ne_eqb n 111 (λ z. omega arith),
      ne_eqb n 112 (λ z. omega arith),
      ne_eqb n 113 (λ z. omega arith),
      ne_eqb n 114 (λ z. omega arith),
      ne_eqb n 115 (λ z. omega arith),
    ) refl

pub reply_back : (a : Reply) → Representable a → reply_of (numbers_of a) ≡ a
reply_back Made h = refl
reply_back (At place) h = refl
reply_back (Pitch v) h = ap Pitch (pitch_back v h)
reply_back Left h = refl
reply_back (Claimed slot) h = refl
reply_back (Written n) h = refl
reply_back (Swapped slot) h = refl
reply_back (Synced mark) h = refl
reply_back Raised h = refl
reply_back Shared h = refl
reply_back (Walked walked) h = walk_back walked
reply_back (Freed slot n) h = refl
reply_back (Refused n) h = refused_back n h
reply_back (Picked slot) h = refl

pub numbers_injective : (a a' : Reply) → Representable a → Representable a' → numbers_of a ≡ numbers_of a' → a ≡ a'
numbers_injective a a' h h' e = sym (reply_back a h) ∙ (ap reply_of e ∙ reply_back a' h')
