-- A command's own text. A command whose arguments have their widths is read back from it, whatever they are: its text is bracketed, its decimals are read back,
-- and it is at most 51 bytes. Assumes nothing.
use Rattle.std.specs.Prelude.{ℕ, suc, ◌-◌, ◌^◌, ◌<◌, ◌≤◌, ◌≡◌, ◌⊎◌, List, ◌++◌, eqb, ℤ, pos, negsuc}
use Rattle.base.specs.Base.{choose}
use Rattle.calls.specs.declared.Call.{Call}
use Rattle.calls.specs.declared.Call.TheVariants as call
use Rattle.calls.specs.Numbers.{pitch_bits, kind_new, kind_old, kind_rest}
use Rattle.sheet_law.specs.declared.Command.{Command}
use Rattle.sheet_law.specs.declared.Command.TheVariants.{Make, Run}
use Rattle.sheet_law.specs.Text.{text, decimal}
use Rattle.sheet_law.specs.Printing.{with_one, with_two}

-- The text of a kind and of a pitch.
abbrev pub kind_text : ℕ → List ℕ
kind_text kind = choose (eqb kind kind_new) (text "new") (choose (eqb kind kind_old) (text "old") (text "rest"))

abbrev pub angle_text : ℤ → List ℕ
angle_text (pos n) = decimal n
angle_text (negsuc n) = text "-" ++ decimal (suc n)

-- What stands between the brackets: the word and its arguments, one space between.
abbrev pub call_text : Call → List ℕ
call_text (call.Enter r) = with_one (text "enter ") r
call_text (call.Look r k) = with_two (text "look ") r k
call_text (call.Leave r) = with_one (text "leave ") r
call_text (call.Claim p slot) = with_two (text "claim ") p slot
call_text (call.Write p v) = with_one (text "write ") p ++ (text " " ++ angle_text v)
call_text (call.Swap p) = with_one (text "swap ") p
call_text (call.Sync p) = with_one (text "sync ") p
call_text (call.Raise p) = with_one (text "raise ") p
call_text (call.Walk p b) = with_two (text "walk ") p b
call_text (call.Release p) = with_one (text "release ") p
call_text (call.Pick r) = with_one (text "pick ") r
call_text (call.Checkpoint r) = with_one (text "checkpoint ") r
call_text (call.Defer p) = with_one (text "defer ") p

abbrev pub store_text : ℕ → ℕ → ℕ → ℕ → ℕ → List ℕ
store_text kind rs ps ss version = kind_text kind ++ (text " " ++ (decimal rs ++ (text " " ++ (decimal ps ++ (text " " ++ (decimal ss ++ (text " " ++ decimal version)))))))

abbrev pub inner_text : Command → List ℕ
inner_text (Make kind rs ps ss version) = text "store " ++ store_text kind rs ps ss version
inner_text (Run c) = call_text c

abbrev pub in_brackets : List ℕ → List ℕ
in_brackets l = text "(" ++ (l ++ text ")")

abbrev pub command_text : Command → List ℕ
command_text c = in_brackets (inner_text c)

-- Widths: pitches signed pitch_bits, versions 64, all other arguments 16, unsigned; the kind is `new`, `old` or `rest`.
abbrev pub FitsNarrow : ℕ → Type 0
FitsNarrow n = n < 2 ^ 16

abbrev pub FitsWide : ℕ → Type 0
FitsWide n = n < 2 ^ 64

abbrev pub FitsAngle : ℤ → Type 0
FitsAngle (pos n) = n < 2 ^ (pitch_bits - 1)
FitsAngle (negsuc n) = suc n ≤ 2 ^ (pitch_bits - 1)

abbrev pub FitsCall : Call → Type 0
FitsCall (call.Enter r) = FitsNarrow r
FitsCall (call.Look r k) = FitsNarrow r × FitsNarrow k
FitsCall (call.Leave r) = FitsNarrow r
FitsCall (call.Claim p slot) = FitsNarrow p × FitsNarrow slot
FitsCall (call.Write p v) = FitsNarrow p × FitsAngle v
FitsCall (call.Swap p) = FitsNarrow p
FitsCall (call.Sync p) = FitsNarrow p
FitsCall (call.Raise p) = FitsNarrow p
FitsCall (call.Walk p b) = FitsNarrow p × FitsNarrow b
FitsCall (call.Release p) = FitsNarrow p
FitsCall (call.Pick r) = FitsNarrow r
FitsCall (call.Checkpoint r) = FitsNarrow r
FitsCall (call.Defer p) = FitsNarrow p

abbrev pub FitsKind : ℕ → Type 0
FitsKind kind = (kind ≡ kind_new) ⊎ ((kind ≡ kind_old) ⊎ (kind ≡ kind_rest))

abbrev pub CommandFits : Command → Type 0
CommandFits (Make kind rs ps ss version) = FitsKind kind × FitsNarrow rs × FitsNarrow ps × FitsNarrow ss × FitsWide version
CommandFits (Run c) = FitsCall c

-- The longest text of a pitch: a minus and ten digits.
abbrev pub pitch_text_max : ℕ
pitch_text_max = 11
