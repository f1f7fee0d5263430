-- The whole program: a card's bytes and a sheet's bytes in to bytes out. By the theorem of feeding and that of the card's first entries. Assumes nothing.
use Rattle.std.specs.Prelude.{ℕ, ◌≡◌, List, ◌++◌, ℤ, length, take}
use Rattle.std.proofs.Common.{ap, ◌∙◌}
use Rattle.lines_law.specs.Lines.{ending}
use Rattle.sheet_law.specs.Sheet.{sheet, start}
use Rattle.sheet.specs.Feeds.{Feeds, Step, Chain, state_after, all_taken, all_printed, fed_sheet}
use Rattle.card_law.specs.Card.{card_of, card_read, card_kept, sheet_on}
use Rattle.card_law.proofs.CardSheet.{first_entries}
use Rattle.run_sheet.specs.TakenFrom.{TakenFrom}

-- Where the bytes that were read are the card's first 4096: however the sheet is cut, and however often the output was full, what all steps printed from the start,
-- and the step that takes the whole ending, is what this card and all that was taken give.
pub printed_on_card : (card bytes : List ℕ) (size : ℕ) (room : List ℤ) (count : ℕ) → TakenFrom bytes size room count → take size bytes ≡ take card_read card
    → (ss : List Step) → Chain (take count room) start ss
    → (l : Step) → Feeds (take count room) (state_after start ss) l.input l.used l.after l.before l.out l.made → l.input ≡ ending (state_after start ss).begun → l.used ≡ length l.input
    → all_printed ss ++ take l.made l.out ≡ sheet_on card (all_taken ss)
printed_on_card card bytes size room count taken read ss chain l f e all =
    fed_sheet (take count room) ss chain l f e all
    ∙ ap (λ (table : List ℤ). sheet table (all_taken ss)) (taken.entries ∙ ap (λ (b : List ℕ). take card_kept (card_of b)) read)
    ∙ first_entries card (all_taken ss)
