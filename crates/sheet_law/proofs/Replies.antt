-- Two different replies never print the same text: a reply is read back from its text by its first word and its plain decimals. And a printed line tells its
-- number and its reply. Assumes nothing.
use Rattle.std.specs.Prelude.{ℕ, suc, ◌≡◌, refl, List, ◌∷◌, ◌++◌, ℤ, pos, negsuc, drop, Option, Some, None}
use Rattle.std.proofs.Common.{arith, sym, ap, ◌∙◌}
use Rattle.std.proofs.lemmas.List.{append_cancel_right}
use Rattle.calls.specs.declared.Reply.{Reply}
use Rattle.calls.specs.declared.Reply.TheVariants as reply
use Rattle.calls.specs.declared.WalkReply.{WalkReply}
use Rattle.calls.specs.declared.WalkReply.TheVariants.{Waiting, Spent, Quiet, Returned}
use Rattle.sheet_law.specs.Text.{text, space_byte, decimal}
use Rattle.sheet_law.specs.Reading.{up_to_space, after_space, plain}
use Rattle.sheet_law.specs.Printing.{walk_text, reply_text, printed_line}
use Rattle.sheet_law.proofs.Decimals.{decimal_injective, plain_decimal, decimal_up_to_space, decimal_after_space, signed_decimal}
use Rattle.sheet_law.specs.Replies.{reply_with, reply_with_numbers, reply_named}

number_back : (n : ℕ) (f : ℕ → Reply) → reply_with (plain (decimal n)) f ≡ Some (f n)
number_back n f = rw (plain_decimal n) refl

numbers_back : (n m : ℕ) (f : ℕ → ℕ → Reply) → reply_with_numbers (plain (up_to_space (decimal n ++ (space_byte ∷ decimal m)))) (plain (after_space (decimal n ++ (space_byte ∷ decimal m)))) f ≡ Some (f n m)
numbers_back n m f = rw (decimal_up_to_space n (decimal m), decimal_after_space n (decimal m), plain_decimal n, plain_decimal m) refl

pitch_back : (v : ℤ) → reply_named (reply_text (reply.Pitch v)) ≡ Some (reply.Pitch v)
unfolding up_to_space after_space
pitch_back (pos n) = ap (λ (x : Option ℤ). reply_with x reply.Pitch) (signed_decimal (λ x. x) (λ x. x) n)
pitch_back (negsuc n) = rw (plain_decimal (suc n)) refl

walk_back : (walked : WalkReply) → reply_named (walk_text walked) ≡ Some (reply.Walked walked)
unfolding up_to_space after_space
walk_back (Waiting awaited) = number_back awaited (λ n. reply.Walked (Waiting n))
walk_back Spent = refl
walk_back Quiet = refl
walk_back (Returned looks waits) = numbers_back looks waits (λ n m. reply.Walked (Returned n m))

pub read_back : (a : Reply) → reply_named (reply_text a) ≡ Some a
unfolding up_to_space after_space
read_back reply.Made = refl
read_back (reply.At place) = number_back place reply.At
read_back (reply.Pitch v) = pitch_back v
read_back reply.Left = refl
read_back (reply.Claimed slot) = number_back slot reply.Claimed
read_back (reply.Written n) = number_back n reply.Written
read_back (reply.Swapped slot) = number_back slot reply.Swapped
read_back (reply.Synced mark) = number_back mark reply.Synced
read_back reply.Raised = refl
read_back reply.Shared = refl
read_back (reply.Walked walked) = walk_back walked
read_back (reply.Freed slot n) = numbers_back slot n reply.Freed
read_back (reply.Refused n) = number_back n reply.Refused
read_back (reply.Picked slot) = number_back slot reply.Picked

-- Two different replies never print the same text, and no reply prints `unread`.
pub reply_injective : (a a' : Reply) → reply_text a ≡ reply_text a' → a ≡ a'
reply_injective a a' e = let q = sym (read_back a) ∙ (ap reply_named e ∙ read_back a') in cc

pub no_reply_unread : (a : Reply) → reply_text a ≡ text "unread" → ⊥
unfolding up_to_space
no_reply_unread a e =
    let q : Some a ≡ None = sym (read_back a) ∙ ap reply_named e in
    let z : ◌≡◌ {A = ℕ} 0 1 = cc in omega arith

-- A printed line tells its number and what was said.
pub line_injective : (n m : ℕ) (said said' : List ℕ) → printed_line n said ≡ printed_line m said' → (n ≡ m) × (said ≡ said')
line_injective n m said said' e =
    let end : List ℕ = text ")\n" in
    let d : decimal n ≡ decimal m = sym (decimal_up_to_space n (said ++ end)) ∙ (ap (λ l. up_to_space (drop 1 l)) e ∙ decimal_up_to_space m (said' ++ end)) in
    let r : said ++ end ≡ said' ++ end = sym (decimal_after_space n (said ++ end)) ∙ (ap (λ l. after_space (drop 1 l)) e ∙ decimal_after_space m (said' ++ end)) in
    (decimal_injective n m d, append_cancel_right said said' end r)
