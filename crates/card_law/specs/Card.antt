-- A card's bytes to its entries: one decimal a line, in the sheet's shape of a pitch. A card that has a misshapen or too wide line counts as no entries.
use Rattle.std.specs.Prelude.{ℕ, ◌+◌, List, [], ◌∷◌, ◌++◌, ℤ, Option, Some, None, unwrap_or}
use Rattle.calls.specs.Numbers.{table_length}
use Rattle.lines_law.specs.Lines.{newline_byte, lines_of, LineReader, after_lines}
use Rattle.sheet_law.specs.Reading.{line_max, angle}
use Rattle.sheet_law.specs.Canonical.{angle_text}
use Rattle.sheet_law.specs.Sheet.{sheet}
use Rattle.sheet_law.specs.ByTable.{as_first_table}

-- The entries of the lines so far, none after a line that is no pitch.
abbrev pub with_line : Option (List ℤ) → Option ℤ → Option (List ℤ)
with_line None a = None
with_line (Some vs) None = None
with_line (Some vs) (Some v) = Some (vs ++ (v ∷ []))

abbrev pub card_reader : LineReader
card_reader = record { Kept = Option (List ℤ); after = λ x l. with_line x (angle l); says = λ x l. []; longest = line_max }

abbrev pub card_lines : List ℕ → Option (List ℤ)
card_lines t = after_lines card_reader (Some []) (lines_of t)

unfoldable pub card_of : List ℕ → List ℤ
card_of t = unwrap_or (card_lines t) []

-- The number of the first line that is no pitch, after n lines; `None` if there is none.
abbrev pub or_line : Option ℤ → ℕ → Option ℕ → Option ℕ
or_line None n rest = Some n
or_line (Some v) n rest = rest

unfoldable pub bad_line : ℕ → List (List ℕ) → Option ℕ
bad_line n [] = None
bad_line n (l ∷ ls) = or_line (angle l) (n + 1) (bad_line (n + 1) ls)

-- The card that has these entries: a line for each.
unfoldable pub card_text : List ℤ → List ℕ
card_text [] = []
card_text (v ∷ vs) = angle_text v ++ (newline_byte ∷ card_text vs)

-- The first table that a card is, if it is one.
abbrev pub table_on : List ℕ → Option (List ℤ)
table_on t = as_first_table (card_of t)

-- A program reads so many bytes of the file, and keeps so many entries: one more than a first table has tells that there are more.
abbrev pub card_read : ℕ
card_read = 4096

abbrev pub card_kept : ℕ
card_kept = table_length + 1

-- The whole program: a card's bytes and a sheet's bytes to the bytes that are printed. A missing card counts as an empty one.
unfoldable pub sheet_on : List ℕ → List ℕ → List ℕ
sheet_on card t = sheet (card_of card) t
