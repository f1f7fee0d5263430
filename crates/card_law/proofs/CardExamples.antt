-- Cards and how they are read, and what a `store` line gets with some of them, by computation. Assumes nothing.
use Rattle.std.specs.Prelude.{ℕ, ◌≡◌, refl, List, [], ◌∷◌, ◌++◌, ℤ, pos, negsuc, replicate}
use Rattle.base.specs.Rows.{any_below}
use Rattle.calls.specs.FirstTable.{tables}
use Rattle.lines_law.specs.Lines.{lines_from, after_lines, printed_for}
use Rattle.lines_law.specs.Joining.{joined_lines}
use Rattle.layout.specs.Layout.{with_readers, fresh_words}
use Rattle.publication_law.specs.Table.{making}
use Rattle.kinds_law.specs.Kinds.{kind_of_number, any_making}
use Rattle.sheet_law.specs.Text.{text, digits_before, decimal}
use Rattle.sheet_law.specs.Reading.{up_to_space, after_space, digits, plain, angle, named_in as wordNamed, line_of}
use Rattle.sheet_law.specs.Sheet.{played, sheet}
use Rattle.card_law.specs.Card.{card_of, sheet_on}

-- Cards with their entries.
abbrev AllRead : List (List ℕ × List ℤ) → Type 0
AllRead [] = Unit {0}
AllRead ((card, entries) ∷ l) = (card_of card ≡ entries) × AllRead l

pub readings : AllRead (
    -- the last line may lack its newline; an empty file has no lines
    (text "90000\n-5000\n", pos 90000 ∷ negsuc 4999 ∷ [])
    ∷ (text "90000\n-5000", pos 90000 ∷ negsuc 4999 ∷ [])
    ∷ (text "", [])
    -- an empty line anywhere is misshapen, a blank last one too
    ∷ (text "90000\n\n-5000\n", [])
    ∷ (text "90000\n\n", [])
    ∷ (text "\n", [])
    -- no leading zero, no plus, no `-0`, no space, no carriage return
    ∷ (text "0\n", pos 0 ∷ [])
    ∷ (text "090000\n", [])
    ∷ (text "+90000\n", [])
    ∷ (text "-0\n", [])
    ∷ (text "90000 \n", [])
    ∷ (text "90000\r\n", [])
    -- a pitch has 32 bits; one line too wide leaves no entries
    ∷ (text "2147483647\n-2147483648\n", pos 2147483647 ∷ negsuc 2147483647 ∷ [])
    ∷ (text "90000\n2147483648\n", [])
    ∷ (text "90000\n-2147483649\n", [])
    ∷ [])
unfolding lines_from after_lines digits plain angle card_of
readings = (refl, (refl, (refl, (refl, (refl, (refl, (refl, (refl, (refl, (refl, (refl, (refl, (refl, (refl, (refl, tt)))))))))))))))

-- The card that has n lines of one pitch.
abbrev lines : ℕ → List ℕ → List ℕ
lines n pitch = joined_lines (replicate n pitch)

-- Cards, sheets and what is printed.
abbrev AllPrinted : List (List ℕ × List ℕ × List ℕ) → Type 0
AllPrinted [] = Unit {0}
AllPrinted ((card, t, said) ∷ l) = (sheet_on card t ≡ said) × AllPrinted l

abbrev STORE : List ℕ
STORE = text "(store new 1 1 2 0)\n"

pub printings : AllPrinted (
    -- 40 at any other number of lines, and without a card
    (text "", STORE, text "(1 refused 40)\n")
    ∷ (lines 31 (text "90000"), STORE, text "(1 refused 40)\n")
    ∷ (lines 33 (text "90000"), STORE, text "(1 refused 40)\n")
    ∷ (lines 32 (text "90000"), STORE, text "(1 made)\n")
    -- a bad line, a blank last one too, leaves no entries
    ∷ (lines 32 (text "90000") ++ text "\n", STORE, text "(1 refused 40)\n")
    ∷ (lines 31 (text "90000") ++ text "2147483648\n", STORE, text "(1 refused 40)\n")
    -- 41 before 42: an entry out of range, two neighbours more than 15000 apart
    ∷ (lines 31 (text "0") ++ text "95001\n", STORE, text "(1 refused 41)\n")
    ∷ (lines 31 (text "0") ++ text "15001\n", STORE, text "(1 refused 42)\n")
    ∷ (lines 31 (text "15000") ++ text "0\n", STORE, text "(1 made)\n")
    -- 2, 3, 4 and 6 before 40
    ∷ (text "", text "(store new 0 1 2 0)\n", text "(1 refused 2)\n")
    ∷ (text "", text "(store old 1 0 2 0)\n", text "(1 refused 3)\n")
    ∷ (text "", text "(store new 1 1 33 0)\n", text "(1 refused 4)\n")
    ∷ (text "", text "(store new 1 1 2 18446744073709551615)\n", text "(1 refused 6)\n")
    -- `old` takes every first version
    ∷ (text "", text "(store old 1 1 2 18446744073709551615)\n", text "(1 refused 40)\n")
    ∷ (lines 32 (text "90000"), text "(store old 1 1 2 18446744073709551615)\n", text "(1 made)\n")
    -- `rest` has as many publishers as readers, up to 16, and takes every first version
    ∷ (text "", text "(store rest 65 65 2 0)\n", text "(1 refused 2)\n")
    ∷ (text "", text "(store rest 17 17 2 0)\n", text "(1 refused 3)\n")
    ∷ (text "", text "(store rest 3 2 2 0)\n", text "(1 refused 3)\n")
    ∷ (text "", text "(store rest 16 16 2 18446744073709551615)\n", text "(1 refused 40)\n")
    ∷ (lines 32 (text "90000"), text "(store rest 16 16 2 18446744073709551615)\n", text "(1 made)\n")
    ∷ [])
unfolding
    with_readers fresh_words any_below tables making kind_of_number any_making digits_before decimal up_to_space after_space digits plain angle wordNamed line_of played joined_lines lines_from after_lines printed_for sheet card_of sheet_on
printings = (refl, (refl, (refl, (refl, (refl, (refl, (refl, (refl, (refl, (refl, (refl, (refl, (refl, (refl, (refl, (refl, (refl, (refl, (refl, (refl, tt))))))))))))))))))))
