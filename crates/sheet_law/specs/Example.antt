-- Sheets and what they print with a first table of 32 times 90000, as bytes, by computation: document 01's P1, and one on a store of the kind `rest`. Assumes nothing.
use Rattle.std.specs.Prelude.{ℕ, zero, suc, ◌+◌, replicate}
use mathlib.Core.List.{List, [], ◌++◌, flatten}
use Rattle.calls.specs.declared.Reply.TheVariants.{Written}
use Rattle.calls.specs.Numbers.{table_length}
use Rattle.sheet_law.specs.Text.{text}
use Rattle.sheet_law.specs.Printing.{reply_text, printed_line}

abbrev pub P1_sheet : List ℕ
P1_sheet = text "(store new 1 1 2 0)\n(enter 0)\n(enter 0)\n(enter 0)\n(enter 0)\n(enter 0)\n(look 0 31)\n(claim 0 0)\n(claim 0 1)\n(leave 0)\n"

abbrev pub P1_printed : List ℕ
P1_printed = text "(1 made)\n(2 at 1)\n(3 at 2)\n(4 at 3)\n(5 at 4)\n(6 at 5)\n(7 pitch 90000)\n(8 refused 30)\n(9 claimed 1)\n(10 left)\n"

-- Before the store is made a PICK gets 1; after it an ENTER is unread. Slot 0 is deferred, and is free only at the checkpoint of participant 0 that follows one of participant 1.
abbrev pub rest_sheet : List ℕ
rest_sheet =
    text "(pick 0)\n(store rest 2 2 3 0)\n(enter 0)\n(pick 0)\n(claim 0 1)\n"
    ++ (flatten (replicate table_length (text "(write 0 5)\n"))
    ++ (text "(swap 0)\n(look 0 31)\n(defer 0)\n(defer 0)\n(pick 0)\n(look 0 31)\n"
    ++ (text "(checkpoint 0)\n(checkpoint 0)\n(checkpoint 0)\n(checkpoint 0)\n(claim 0 0)\n"
    ++ (text "(checkpoint 1)\n(checkpoint 1)\n(checkpoint 1)\n(checkpoint 1)\n"
    ++ text "(checkpoint 0)\n(checkpoint 0)\n(checkpoint 0)\n(checkpoint 0)\n(claim 0 0)\n"))))

-- What n WRITEs print from line k on, of which the first is the publication's m-th.
abbrev written_from : ℕ → ℕ → ℕ → List ℕ
written_from k m zero = []
written_from k m (suc n) = printed_line k (reply_text (Written m)) ++ written_from (k + 1) (m + 1) n

abbrev pub rest_printed : List ℕ
rest_printed =
    text "(1 refused 1)\n(2 made)\n(3 unread)\n(4 picked 0)\n(5 claimed 1)\n"
    ++ (written_from 6 1 table_length
    ++ (text "(38 swapped 0)\n(39 pitch 90000)\n(40 at 35)\n(41 at 0)\n(42 picked 1)\n(43 pitch 5)\n"
    ++ (text "(44 at 1)\n(45 at 2)\n(46 at 3)\n(47 at 4)\n(48 refused 30)\n"
    ++ (text "(49 at 1)\n(50 at 2)\n(51 at 3)\n(52 at 4)\n"
    ++ text "(53 at 1)\n(54 at 2)\n(55 at 3)\n(56 at 4)\n(57 claimed 0)\n"))))
