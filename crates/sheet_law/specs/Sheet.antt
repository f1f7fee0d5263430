-- The whole sheet, a first table and bytes in to bytes out, as a reader of lines.
use Rattle.std.specs.Prelude.{ℕ, ◌+◌, ◌*◌, ◌%◌, List, [], ◌++◌, ℤ, pos, take, drop, replicate, Option, Some, None}
use Rattle.base.specs.Base.{choose}
use Rattle.calls.specs.Numbers.{number_modulus, table_length, slots_max}
use Rattle.layout.specs.Layout.{words_length, kind_word, slots}
use Rattle.statement.specs.Machine.{State, state, Outcome, outcome, given}
use Rattle.lines_law.specs.Lines.{lines_of, LineReader, printed_for, Midway, midway}
use Rattle.kinds_law.specs.Kinds.{kind_of_number, any_step, lacked_by, any_making}
use Rattle.sheet_law.specs.declared.Command.{Command}
use Rattle.sheet_law.specs.declared.Command.TheVariants.{Make, Run}
use Rattle.sheet_law.specs.Text.{text}
use Rattle.sheet_law.specs.Reading.{line_max, line_of}
use Rattle.sheet_law.specs.Printing.{reply_text, printed_line}

-- Room for the entries of the largest store.
abbrev pub entries_room : ℕ
entries_room = slots_max * table_length

-- Before a made store: words of no kind, so that calls get 1.
abbrev pub unmade : State
unmade = state (replicate words_length 0) (replicate entries_room (pos 0))

-- A making or a call is lent the first n entries of the room.
abbrev pub rejoined : Outcome → List ℤ → Outcome
rejoined o unlent = outcome o.reply (state o.after.words (o.after.entries ++ unlent))

abbrev pub lent : ℕ → (State → Outcome) → State → Outcome
lent n f s = rejoined (f (state s.words (take n s.entries))) (drop n s.entries)

-- `store` is lent exactly slots × 32 entries (all of the room for more slots than a store may have), and a call those of the made store. A refused `store` leaves the one before, since making does.
-- Every `store` line of a sheet is lent the same first table.
unfoldable pub played : List ℤ → State → Command → Outcome
played table s (Make kind rs ps ss version) = lent (ss * table_length) (any_making kind (given rs ps ss version table)) s
played table s (Run c) = lent (slots s.words * table_length) (λ (part : State). any_step part c) s

-- A call that the made store's kind lacks is unread. Before a made store none is lacked, and each gets 1.
abbrev pub known : ℕ → Option Command → Option Command
known made None = None
known made (Some (Make kind rs ps ss version)) = Some (Make kind rs ps ss version)
known made (Some (Run c)) = choose (lacked_by (kind_of_number made) c) None (Some (Run c))

abbrev pub line_for : State → List ℕ → Option Command
line_for s l = known (kind_word s.words) (line_of l)

-- What is said to a line, and the store after it. An unread line makes no call.
abbrev pub said_to : List ℤ → State → Option Command → List ℕ
said_to table s None = text "unread"
said_to table s (Some c) = reply_text (played table s c).reply

abbrev pub after_line : List ℤ → State → Option Command → State
after_line table s None = s
after_line table s (Some c) = (played table s c).after

-- The number of the line after n lines, in 64 bits.
abbrev pub next_line : ℕ → ℕ
next_line n = (n + 1) % number_modulus

-- What is kept from line to line: how many lines were read, and the store.
pub record LinesPlayed : Type 0 where
  pub lines : ℕ
  pub store : State

abbrev pub lines_played : ℕ → State → LinesPlayed
lines_played n s = record { lines = n; store = s }

-- One line is printed for each line.
abbrev pub sheet_reader : List ℤ → LineReader
sheet_reader table = record {
  Kept = LinesPlayed;
  after = λ kept l. lines_played (next_line kept.lines) (after_line table kept.store (line_for kept.store l));
  says = λ kept l. printed_line (next_line kept.lines) (said_to table kept.store (line_for kept.store l));
  longest = line_max;
}

-- The whole sheet, with a first table.
unfoldable pub sheet : List ℤ → List ℕ → List ℕ
sheet table t = printed_for (sheet_reader table) (lines_played 0 unmade) (lines_of t)

-- Between two bytes: how many lines were read, the bytes of the next one so far, and the store.
abbrev pub SheetState : Type 0
SheetState = Midway LinesPlayed

abbrev pub sheet_state : ℕ → List ℕ → State → SheetState
sheet_state n begun s = midway begun (lines_played n s)

abbrev pub start : SheetState
start = sheet_state 0 [] unmade
