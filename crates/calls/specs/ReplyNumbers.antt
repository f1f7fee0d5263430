-- The number and values of each reply, as C gets them, three numbers of 64 bits: document 01's number for a refusal, ours from 100 up for the rest.
use Rattle.std.specs.Prelude.{ℕ, ◌-◌, ℤ, pos, negsuc}
use Rattle.calls.specs.declared.ReplyNumbers.{ReplyNumbers}
use Rattle.calls.specs.declared.Reply.{Reply}
use Rattle.calls.specs.declared.Reply.TheVariants.{Made, At, Pitch, Left, Claimed, Written, Swapped, Synced, Raised, Shared, Walked, Freed, Refused, Picked}
use Rattle.calls.specs.declared.WalkReply.{WalkReply}
use Rattle.calls.specs.declared.WalkReply.TheVariants.{Waiting, Spent, Quiet, Returned}
use Rattle.calls.specs.Numbers.{number_max, code_made, code_at, code_pitch, code_left, code_claimed, code_written, code_swapped, code_synced, code_raised, code_shared, code_waiting, code_spent, code_quiet, code_returned, code_freed, code_picked}

abbrev pub reply_numbers : ℕ → ℕ → ℕ → ReplyNumbers
reply_numbers code first second = record { code = code; first = first; second = second }

-- A pitch in 64 bits: v, and 2^64 + v where v is negative.
abbrev pub pitch_number : ℤ → ℕ
pitch_number (pos n) = n
pitch_number (negsuc n) = number_max - n

-- An accepted reply has 100 and up: those of document 01 in its order, then that of request 3.
abbrev pub walk_numbers : WalkReply → ReplyNumbers
walk_numbers (Waiting awaited) = reply_numbers code_waiting awaited 0
walk_numbers Spent = reply_numbers code_spent 0 0
walk_numbers Quiet = reply_numbers code_quiet 0 0
walk_numbers (Returned looks waits) = reply_numbers code_returned looks waits

abbrev pub numbers_of : Reply → ReplyNumbers
numbers_of Made = reply_numbers code_made 0 0
numbers_of (At place) = reply_numbers code_at place 0
numbers_of (Pitch v) = reply_numbers code_pitch (pitch_number v) 0
numbers_of Left = reply_numbers code_left 0 0
numbers_of (Claimed slot) = reply_numbers code_claimed slot 0
numbers_of (Written n) = reply_numbers code_written n 0
numbers_of (Swapped slot) = reply_numbers code_swapped slot 0
numbers_of (Synced mark) = reply_numbers code_synced mark 0
numbers_of Raised = reply_numbers code_raised 0 0
numbers_of Shared = reply_numbers code_shared 0 0
numbers_of (Walked walked) = walk_numbers walked
numbers_of (Freed slot n) = reply_numbers code_freed slot n
-- A refusal has its number.
numbers_of (Refused n) = reply_numbers n 0 0
numbers_of (Picked slot) = reply_numbers code_picked slot 0
