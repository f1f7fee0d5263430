-- Two different replies never print the same text: a reply is read back from its text by its first word and its plain decimals. And a printed line tells its
-- number and its reply. Assumes nothing.
use Rattle.std.specs.Prelude.{ℕ, List, Option, Some, None}
use Rattle.base.specs.Base.{choose}
use Rattle.calls.specs.declared.Reply.{Reply}
use Rattle.calls.specs.declared.Reply.TheVariants as reply
use Rattle.calls.specs.declared.WalkReply.TheVariants.{Waiting, Spent, Quiet, Returned}
use Rattle.sheet_law.specs.Text.{text, same_text}
use Rattle.sheet_law.specs.Reading.{up_to_space, after_space, plain}
use Rattle.sheet_law.specs.Decimals.{signed}

-- A number or a pitch of any width, and two numbers, read for a reply.
abbrev pub reply_with : {A : Type 0} → Option A → (A → Reply) → Option Reply
reply_with None f = None
reply_with (Some x) f = Some (f x)

abbrev pub reply_with_numbers : Option ℕ → Option ℕ → (ℕ → ℕ → Reply) → Option Reply
reply_with_numbers None second f = None
reply_with_numbers (Some n) second f = reply_with second (f n)

-- The reply that a text is of, if any.
abbrev pub reply_named : List ℕ → Option Reply
reply_named l =
    choose (same_text (up_to_space l) (text "made")) (Some reply.Made)
    (choose (same_text (up_to_space l) (text "at")) (reply_with (plain (after_space l)) reply.At)
    (choose (same_text (up_to_space l) (text "pitch")) (reply_with (signed (λ x. x) (λ x. x) (after_space l)) reply.Pitch)
    (choose (same_text (up_to_space l) (text "left")) (Some reply.Left)
    (choose (same_text (up_to_space l) (text "claimed")) (reply_with (plain (after_space l)) reply.Claimed)
    (choose (same_text (up_to_space l) (text "written")) (reply_with (plain (after_space l)) reply.Written)
    (choose (same_text (up_to_space l) (text "swapped")) (reply_with (plain (after_space l)) reply.Swapped)
    (choose (same_text (up_to_space l) (text "synced")) (reply_with (plain (after_space l)) reply.Synced)
    (choose (same_text (up_to_space l) (text "raised")) (Some reply.Raised)
    (choose (same_text (up_to_space l) (text "shared")) (Some reply.Shared)
    (choose (same_text (up_to_space l) (text "waiting")) (reply_with (plain (after_space l)) (λ awaited. reply.Walked (Waiting awaited)))
    (choose (same_text (up_to_space l) (text "spent")) (Some (reply.Walked Spent))
    (choose (same_text (up_to_space l) (text "quiet")) (Some (reply.Walked Quiet))
    (choose (same_text (up_to_space l) (text "returned")) (reply_with_numbers (plain (up_to_space (after_space l))) (plain (after_space (after_space l))) (λ looks waits. reply.Walked (Returned looks waits)))
    (choose (same_text (up_to_space l) (text "freed")) (reply_with_numbers (plain (up_to_space (after_space l))) (plain (after_space (after_space l))) reply.Freed)
    (choose (same_text (up_to_space l) (text "refused")) (reply_with (plain (after_space l)) reply.Refused)
    (choose (same_text (up_to_space l) (text "picked")) (reply_with (plain (after_space l)) reply.Picked)
    None))))))))))))))))
