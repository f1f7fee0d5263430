-- A card and a sheet: what a program reads and keeps of the card is enough, a card without 32 entries has every `store` refused, and no line is unread for the card's sake.
-- By the first table that the card is; P1 and a sheet on a `rest` store by computation. Assumes nothing.
use Rattle.std.specs.Prelude.{ℕ, List, replicate}
use Rattle.calls.specs.Numbers.{table_length}
use Rattle.lines_law.specs.Joining.{joined_lines}
use Rattle.sheet_law.specs.Text.{text}

-- P1 from its bytes: a card of 32 lines `90000`, and the sheet. With the same card the sheet on a `rest` store.
abbrev pub P1_card : List ℕ
P1_card = joined_lines (replicate table_length (text "90000"))
