-- A reply to its bytes.
use Rattle.std.specs.Prelude.{ℕ, suc, List, ◌++◌, ℤ, pos, negsuc}
use Rattle.calls.specs.declared.Reply.{Reply}
use Rattle.calls.specs.declared.Reply.TheVariants.{Made, At, Pitch, Left, Claimed, Written, Swapped, Synced, Raised, Shared, Walked, Freed, Refused, Picked}
use Rattle.calls.specs.declared.WalkReply.{WalkReply}
use Rattle.calls.specs.declared.WalkReply.TheVariants.{Waiting, Spent, Quiet, Returned}
use Rattle.sheet_law.specs.Text.{text, decimal}

-- A word with one number, and with two.
abbrev pub with_one : List ℕ → ℕ → List ℕ
with_one word n = word ++ decimal n

abbrev pub with_two : List ℕ → ℕ → ℕ → List ℕ
with_two word n m = with_one word n ++ (text " " ++ decimal m)

abbrev pub pitch_text : ℤ → List ℕ
pitch_text (pos n) = with_one (text "pitch ") n
pitch_text (negsuc n) = with_one (text "pitch -") (suc n)

abbrev pub walk_text : WalkReply → List ℕ
walk_text (Waiting awaited) = with_one (text "waiting ") awaited
walk_text Spent = text "spent"
walk_text Quiet = text "quiet"
walk_text (Returned looks waits) = with_two (text "returned ") looks waits

-- Replies: made; at place; pitch v; left; claimed s; written n; swapped s; synced m; raised; shared; waiting w; spent; quiet; returned looks waits; freed s releases; refused n; picked s.
abbrev pub reply_text : Reply → List ℕ
reply_text Made = text "made"
reply_text (At place) = with_one (text "at ") place
reply_text (Pitch v) = pitch_text v
reply_text Left = text "left"
reply_text (Claimed slot) = with_one (text "claimed ") slot
reply_text (Written n) = with_one (text "written ") n
reply_text (Swapped slot) = with_one (text "swapped ") slot
reply_text (Synced mark) = with_one (text "synced ") mark
reply_text Raised = text "raised"
reply_text Shared = text "shared"
reply_text (Walked walked) = walk_text walked
reply_text (Freed slot n) = with_two (text "freed ") slot n
reply_text (Refused n) = with_one (text "refused ") n
reply_text (Picked slot) = with_one (text "picked ") slot

-- No printed line is longer: the longest has three numbers of 20 digits beside `( returned  )` and its newline.
abbrev pub printed_max : ℕ
printed_max = 74

-- One line each: `(n reply)`, n the line number.
abbrev pub printed_line : ℕ → List ℕ → List ℕ
printed_line n reply = with_one (text "(") n ++ (text " " ++ (reply ++ text ")\n"))
