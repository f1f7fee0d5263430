-- Words of any kind: the kind word tells which store they are, and that store's own making and step are what is done.
use Rattle.std.specs.Prelude.{ℕ, Bool, false, eqb}
use Rattle.std.specs.Prelude.{Option, Some as some, None as none}
use Rattle.base.specs.Base.{choose}
use Rattle.calls.specs.declared.Call.{Call}
use Rattle.calls.specs.declared.Reply.TheVariants.{Refused}
use Rattle.calls.specs.Numbers.{kind_new, kind_old, kind_rest, damaged_number}
use Rattle.layout.specs.Layout.{kind_word}
use Rattle.kinds_law.specs.declared.Kind.{Kind}
use Rattle.kinds_law.specs.declared.Kind.TheVariants.{New as new, Old as old, Rest as rest}
use Rattle.kinds_law.specs.declared.UnknownKind.{UnknownKind}
use Rattle.std.specs.Prelude.{Result, Ok, Err, ◌≡◌}
use Rattle.statement.specs.Machine.{State, Outcome, outcome, Given, Machine}
use Rattle.publication_law.specs.Table.{Table, step, making}
use Rattle.grace_version_law.specs.Steps as new-store
use Rattle.two_phase_law.specs.Steps as old-store
use Rattle.qsbr_law.specs.Steps as rest-store

-- The table of each.
abbrev pub table_of : Kind → Table
table_of new = new-store.rules
table_of old = old-store.rules
table_of rest = rest-store.rules

-- A kind's number, which its making stores as the kind word.
abbrev pub kind_number : Kind → ℕ
kind_number new = kind_new
kind_number old = kind_old
kind_number rest = kind_rest

-- The kind that a number names. Every other number names none, those of other formats among them.
unfoldable pub kind_of_number : ℕ → Option Kind
kind_of_number n = choose (eqb n kind_new) (some new) (choose (eqb n kind_old) (some old) (choose (eqb n kind_rest) (some rest) none))

-- What the code answers of a number: its kind, or that it names none.
abbrev pub IsKindOf : ℕ → Result Kind UnknownKind → Type 0
IsKindOf n (Ok kind) = kind_of_number n ≡ some kind
IsKindOf n (Err unknown) = kind_of_number n ≡ none

-- A call is its kind's own step; words of no kind are damaged, and every call on them gets 1.
abbrev pub step_of : Option Kind → State → Call → Outcome
step_of none s c = outcome (Refused damaged_number) s
step_of (some kind) s c = step (table_of kind) s c

-- Each call takes the words, whatever kind they are, and hands them back with a reply.
unfoldable pub any_step : State → Call → Outcome
any_step s c = step_of (kind_of_number (kind_word s.words)) s c

-- Whether the words' kind lacks a call. Words of no kind lack none: each gets 1.
abbrev pub lacked_by : Option Kind → Call → Bool
lacked_by none c = false
lacked_by (some kind) c = (table_of kind).lacks c

-- Making is its kind's own; a number that no kind has gets 1 before all else, and words and entries stay as lent.
abbrev pub making_of : Option Kind → Given → State → Outcome
making_of none z s = outcome (Refused damaged_number) s
making_of (some kind) z s = making (table_of kind) z s

-- Making a store of the kind with this number.
unfoldable pub any_making : ℕ → Given → State → Outcome
any_making n z s = making_of (kind_of_number n) z s

-- What an executive has: a store made of the kind with this number, and calls that are told the kind by the kind word alone.
abbrev pub store : ℕ → Machine
store n = record { making = any_making n; step = any_step }
