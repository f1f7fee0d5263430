-- A card and a sheet: what a program reads and keeps of the card is enough, a card without 32 entries has every `store` refused, and no line is unread for the card's sake.
-- By the first table that the card is; P1 and a sheet on a `rest` store by computation. Assumes nothing.
use Rattle.std.specs.Prelude.{ℕ, ◌≡◌, refl, ◌↔◌, ◌⊎◌, List, ℤ, take, replicate, None}
use Rattle.std.proofs.Common.{ap, ◌∙◌}
use Rattle.calls.specs.declared.Reply.TheVariants.{Refused}
use Rattle.calls.specs.Numbers.{table_length, feathered_pitch}
use Rattle.statement.specs.Machine.{State, outcome}
use Rattle.lines_law.specs.Lines.{lines_from, after_lines}
use Rattle.lines_law.specs.Joining.{joined_lines}
use Rattle.sheet_law.specs.declared.Command.TheVariants.{Make}
use Rattle.sheet_law.specs.Text.{text}
use Rattle.sheet_law.specs.Reading.{digits, plain, angle, line_of}
use Rattle.sheet_law.specs.Sheet.{played, line_for, said_to, sheet}
use Rattle.sheet_law.specs.ByTable.{LackedCall}
use Rattle.sheet_law.proofs.ByTable.{same_sheet, first_33, store_without, said_unread_exactly}
use Rattle.sheet_law.specs.Example.{P1_sheet, P1_printed, rest_sheet, rest_printed}
use Rattle.sheet_law.proofs.Example.{p1_bytes, rest_bytes}
use Rattle.card_law.specs.Card.{card_of, table_on, card_read, card_kept, sheet_on}
use Rattle.card_law.proofs.CardLaws.{first_bytes}
use Rattle.card_law.specs.CardSheet.{P1_card}

-- With the first 33 entries of a card's first 4096 bytes a sheet prints what it prints with the whole card.
pub first_entries : (card t : List ℕ) → sheet (take card_kept (card_of (take card_read card))) t ≡ sheet_on card t
unfolding sheet_on
first_entries card t = same_sheet _ _ (first_33 (card_of (take card_read card)) ∙ first_bytes card) t

-- With a card that is no first table every `store` is refused, with 40 or with a number that is tested before it, and leaves the store before.
pub no_first_table : (card : List ℕ) → table_on card ≡ None → (s : State) (kind rs ps ss version : ℕ)
    → played (card_of card) s (Make kind rs ps ss version) ≡ outcome (Refused (store_without s kind rs ps ss version).number) s
no_first_table card e s kind rs ps ss version = (store_without s kind rs ps ss version).refused (card_of card) e

-- Whatever the card, a line is unread by its own bytes, or as a call that the store's kind lacks.
pub unread_by_line : (card : List ℕ) (s : State) (l : List ℕ) → (said_to (card_of card) s (line_for s l) ≡ text "unread") ↔ ((line_of l ≡ None) ⊎ LackedCall s l)
unread_by_line card = said_unread_exactly (card_of card)

p1_card : card_of P1_card ≡ replicate table_length feathered_pitch
unfolding joined_lines lines_from after_lines digits plain angle card_of
p1_card = refl

pub p1_from_bytes : sheet_on P1_card P1_sheet ≡ P1_printed
unfolding sheet_on
p1_from_bytes = ap (λ (entries : List ℤ). sheet entries P1_sheet) p1_card ∙ p1_bytes

pub rest_from_bytes : sheet_on P1_card rest_sheet ≡ rest_printed
unfolding sheet_on
rest_from_bytes = ap (λ (entries : List ℤ). sheet entries rest_sheet) p1_card ∙ rest_bytes
