-- A sheet depends on its table only as a first table: two that have not 32 entries get the same refusals, since row 40 applies to both. And never does a line become
-- unread for the table's sake. Assumes nothing.
use Rattle.std.specs.Prelude.{ℕ, ◌≤◌, ◌≡◌, ◌⊎◌, eqb, ℤ, length, Option, Some, None}
use Rattle.std.proofs.Math.Bool.{true}
use mathlib.Core.List.{List}
use Rattle.base.specs.Base.{choose}
use Rattle.calls.specs.declared.Call.{Call}
use Rattle.calls.specs.declared.Reply.TheVariants.{Refused}
use Rattle.calls.specs.Numbers.{table_length, bad_version_number, bad_table_length_number}
use Rattle.layout.specs.Layout.{kind_word}
use Rattle.statement.specs.Machine.{State, outcome}
use Rattle.kinds_law.specs.Kinds.{kind_of_number, lacked_by}
use Rattle.sheet_law.specs.declared.Command.{Command}
use Rattle.sheet_law.specs.declared.Command.TheVariants.{Run}
use Rattle.sheet_law.specs.Reading.{line_of}
use Rattle.sheet_law.specs.Sheet.{played}

-- Which first table some entries are: themselves if they are 32, else none.
abbrev pub as_first_table : List ℤ → Option (List ℤ)
as_first_table entries = choose (eqb (length entries) table_length) (Some entries) None

-- A number that is tested before 40, or 40.
abbrev pub Early : ℕ → Type 0
Early n = (n ≤ bad_version_number) ⊎ (n ≡ bad_table_length_number)

-- A command that without a first table is refused with one such number, whatever other entries there are, and leaves the store before.
pub record RefusedWithout (s : State) (c : Command) : Type 0 where
  pub number : ℕ
  pub early : Early number
  pub refused : (entries : List ℤ) → as_first_table entries ≡ None → played entries s c ≡ outcome (Refused number) s

-- A line that reads as a call which the kind of the store's words lacks.
pub record LackedCall (s : State) (l : List ℕ) : Type 0 where
  pub call : Call
  pub reads : line_of l ≡ Some (Run call)
  pub lacked : lacked_by (kind_of_number (kind_word s.words)) call ≡ true
