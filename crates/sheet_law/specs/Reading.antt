-- A line's bytes to a command: document 01's 'Run sheet', sentence by sentence.
use Rattle.std.specs.Prelude.{ℕ, zero, suc, ◌+◌, ◌*◌, ◌-◌, Bool, ◌&&◌, List, [], ◌∷◌, eqb, ltb, ℤ, pos, negsuc, length, get_or, take, drop, Option, Some, None}
use Prim.Native.String.{String}
use Rattle.base.specs.Base.{choose}
use Rattle.base.specs.Rows.{outside}
use Rattle.calls.specs.declared.Call.{Call}
use Rattle.calls.specs.declared.Call.TheVariants as call
use Rattle.calls.specs.Numbers.{pitch_half, number_max, kind_new, kind_old, kind_rest}
use Rattle.sheet_law.specs.declared.Keyword.{Keyword}
use Rattle.sheet_law.specs.declared.Keyword.TheVariants.{Store, Enter, Look, Leave, Claim, Write, Swap, Sync, Raise, Walk, Release, Pick, Checkpoint, Defer}
use Rattle.sheet_law.specs.declared.Command.{Command}
use Rattle.sheet_law.specs.declared.Command.TheVariants.{Make, Run}
use Rattle.sheet_law.specs.Text.{text, same_text, space_byte, open_bracket, close_bracket, minus_byte, digit_0, digit_9}

-- Widths: 80 bytes a line; pitches signed pitch_bits; versions 64, all other arguments 16, unsigned.
abbrev pub line_max : ℕ
line_max = 80

abbrev pub narrow_max : ℕ
narrow_max = 65535

-- The size of the least pitch that is read, and the greatest. Whether a pitch is in range is for the call to say.
abbrev pub pitch_least : ℕ
pitch_least = pitch_half

abbrev pub pitch_most : ℕ
pitch_most = pitch_half - 1

-- One space between: the text before the first space and the text after it; where there is no space, all of it and nothing.
unfoldable pub up_to_space : List ℕ → List ℕ
up_to_space [] = []
up_to_space (b ∷ l) = choose (eqb b space_byte) [] (b ∷ up_to_space l)

unfoldable pub after_space : List ℕ → List ℕ
after_space [] = []
after_space (b ∷ l) = choose (eqb b space_byte) l (after_space l)

-- Digits, read from the left, after digits whose number is n.
unfoldable pub digits : ℕ → List ℕ → Option ℕ
digits n [] = Some n
digits n (b ∷ l) = choose (outside digit_0 digit_9 b) None (digits (n * 10 + (b - digit_0)) l)

-- Plain decimals without leading zeros.
unfoldable pub plain : List ℕ → Option ℕ
plain [] = None
plain (b ∷ []) = digits 0 (b ∷ [])
plain (b ∷ c ∷ l) = choose (eqb b digit_0) None (digits 0 (b ∷ c ∷ l))

-- A number too wide gives unread.
abbrev pub at_most : ℕ → Option ℕ → Option ℕ
at_most most None = None
at_most most (Some n) = choose (ltb most n) None (Some n)

abbrev pub narrow : List ℕ → Option ℕ
narrow l = at_most narrow_max (plain l)

abbrev pub wide : List ℕ → Option ℕ
wide l = at_most number_max (plain l)

-- A minus for a negative pitch; `-0` gives unread.
abbrev pub negative : Option ℕ → Option ℤ
negative None = None
negative (Some zero) = None
negative (Some (suc n)) = Some (negsuc n)

abbrev pub positive : Option ℕ → Option ℤ
positive None = None
positive (Some n) = Some (pos n)

unfoldable pub angle : List ℕ → Option ℤ
angle [] = None
angle (b ∷ l) = choose (eqb b minus_byte) (negative (at_most pitch_least (plain l))) (positive (at_most pitch_most (plain (b ∷ l))))

-- Words with what they name. A text names what the first row with that text does, and nothing if there is no such row.
infix 70 ◌names◌
pub data Naming (A : Type 0) : Type 0 where
  ◌names◌ : String → A → Naming A

unfoldable pub named_in : {A : Type 0} → List (Naming A) → List ℕ → Option A
named_in [] word = None
named_in ((name names x) ∷ rows) word = choose (same_text word (text name)) (Some x) (named_in rows word)

-- Words are the calls in small letters and `store`.
abbrev pub keywords : List (Naming Keyword)
keywords =
    "store" names Store
    ∷ "enter" names Enter
    ∷ "look" names Look
    ∷ "leave" names Leave
    ∷ "claim" names Claim
    ∷ "write" names Write
    ∷ "swap" names Swap
    ∷ "sync" names Sync
    ∷ "raise" names Raise
    ∷ "walk" names Walk
    ∷ "release" names Release
    ∷ "pick" names Pick
    ∷ "checkpoint" names Checkpoint
    ∷ "defer" names Defer
    ∷ []

abbrev pub keyword : List ℕ → Option Keyword
keyword word = named_in keywords word

-- `store`, whose kind is `new`, `old` or `rest`.
abbrev pub kinds : List (Naming ℕ)
kinds =
    "new" names kind_new
    ∷ "old" names kind_old
    ∷ "rest" names kind_rest
    ∷ []

abbrev pub kind_named : List ℕ → Option ℕ
kind_named word = named_in kinds word

-- A line with a word or an argument that is not read is unread.
abbrev pub if_read : {A : Type 0} → Option A → (A → Option Command) → Option Command
if_read None f = None
if_read (Some x) f = f x

-- The arguments of a call: a reader or a publisher; with a second number, an entry, a slot or a number of looks; with a pitch.
abbrev pub one : List ℕ → (ℕ → Call) → Option Command
one l build = if_read (narrow l) (λ n. Some (Run (build n)))

abbrev pub two : List ℕ → (ℕ → ℕ → Call) → Option Command
two l build = if_read (narrow (up_to_space l)) (λ n. if_read (narrow (after_space l)) (λ m. Some (Run (build n m))))

abbrev pub pitched : List ℕ → (ℕ → ℤ → Call) → Option Command
pitched l build = if_read (narrow (up_to_space l)) (λ n. if_read (angle (after_space l)) (λ v. Some (Run (build n v))))

-- (kind, readers, publishers, slots, first version)
abbrev pub store_line_rest : ℕ → ℕ → List ℕ → Option Command
store_line_rest kind rs l =
    if_read (narrow (up_to_space l)) (λ ps.
    if_read (narrow (up_to_space (after_space l))) (λ ss.
    if_read (wide (after_space (after_space l))) (λ version.
    Some (Make kind rs ps ss version))))

abbrev pub store_line : List ℕ → Option Command
store_line l = if_read (kind_named (up_to_space l)) (λ kind. if_read (narrow (up_to_space (after_space l))) (λ rs. store_line_rest kind rs (after_space (after_space l))))

-- Each word: how its arguments are read, and the call that they make.
abbrev pub command : Keyword → List ℕ → Option Command
command Store l = store_line l
command Enter l = one l call.Enter
command Look l = two l call.Look
command Leave l = one l call.Leave
command Claim l = two l call.Claim
command Write l = pitched l call.Write
command Swap l = one l call.Swap
command Sync l = one l call.Sync
command Raise l = one l call.Raise
command Walk l = two l call.Walk
command Release l = one l call.Release
command Pick l = one l call.Pick
command Checkpoint l = one l call.Checkpoint
command Defer l = one l call.Defer

-- Bracketed: what stands between the brackets.
abbrev pub bracketed : List ℕ → Bool
bracketed l = ltb 1 (length l) && (eqb (get_or l 0 0) open_bracket && eqb (get_or l (length l - 1) 0) close_bracket)

abbrev pub inner : List ℕ → List ℕ
inner l = take (length l - 2) (drop 1 l)

-- A line is a bracketed word with arguments; a misshapen or empty line or one over 80 bytes gives unread.
unfoldable pub line_of : List ℕ → Option Command
line_of l = choose (ltb line_max (length l)) None (choose (bracketed l) (if_read (keyword (up_to_space (inner l))) (λ word. command word (after_space (inner l)))) None)
