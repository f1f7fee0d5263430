-- Two different replies, with pitches of 64 bits and refusals below 100, never have the same three numbers: a reply can be read back. Assumes nothing.
use Rattle.std.specs.Prelude.{ℕ, ◌-◌, ◌<◌, ℤ, pos, negsuc, eqb, ltb}
use Rattle.base.specs.Base.{choose}
use Rattle.calls.specs.declared.ReplyNumbers.{ReplyNumbers}
use Rattle.calls.specs.declared.Reply.{Reply}
use Rattle.calls.specs.declared.Reply.TheVariants.{Made, At, Pitch, Left, Claimed, Written, Swapped, Synced, Raised, Shared, Walked, Freed, Refused, Picked}
use Rattle.calls.specs.declared.WalkReply.TheVariants.{Waiting, Spent, Quiet, Returned}
use Rattle.calls.specs.Numbers.{number_max}

-- 2^63
abbrev pub HALF : ℕ
HALF = 9223372036854775808

abbrev pub pitch_of : ℕ → ℤ
pitch_of n = choose (ltb n HALF) (pos n) (negsuc (number_max - n))

-- The reply that three numbers stand for.
abbrev pub reply_of : ReplyNumbers → Reply
reply_of numbers =
    choose (eqb numbers.code 100) Made
    (choose (eqb numbers.code 101) (At numbers.first)
    (choose (eqb numbers.code 102) (Pitch (pitch_of numbers.first))
    (choose (eqb numbers.code 103) Left
    (choose (eqb numbers.code 104) (Claimed numbers.first)
    (choose (eqb numbers.code 105) (Written numbers.first)
    (choose (eqb numbers.code 106) (Swapped numbers.first)
    (choose (eqb numbers.code 107) (Synced numbers.first)
    (choose (eqb numbers.code 108) Raised
    (choose (eqb numbers.code 109) Shared
    (choose (eqb numbers.code 110) (Walked (Waiting numbers.first))
    (choose (eqb numbers.code 111) (Walked Spent)
    (choose (eqb numbers.code 112) (Walked Quiet)
    (choose (eqb numbers.code 113) (Walked (Returned numbers.first numbers.second))
    (choose (eqb numbers.code 114) (Freed numbers.first numbers.second)
    (choose (eqb numbers.code 115) (Picked numbers.first)
    (Refused numbers.code))))))))))))))))

-- A pitch of 64 bits, and a refusal below 100: what the code's types and document 01's table give.
abbrev pub PitchFitsWord : ℤ → Type 0
PitchFitsWord (pos n) = n < HALF
PitchFitsWord (negsuc n) = n < HALF

abbrev pub Representable : Reply → Type 0
Representable Made = Unit {0}
Representable (At place) = Unit {0}
Representable (Pitch v) = PitchFitsWord v
Representable Left = Unit {0}
Representable (Claimed slot) = Unit {0}
Representable (Written n) = Unit {0}
Representable (Swapped slot) = Unit {0}
Representable (Synced mark) = Unit {0}
Representable Raised = Unit {0}
Representable Shared = Unit {0}
Representable (Walked walked) = Unit {0}
Representable (Freed slot n) = Unit {0}
Representable (Refused n) = n < 100
Representable (Picked slot) = Unit {0}
