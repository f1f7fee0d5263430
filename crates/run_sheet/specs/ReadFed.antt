-- What the program keeps of a read.
use Rattle.std.specs.Prelude.{ℕ, ◌≤◌, ◌≡◌, Bool, true, List, ℤ, length, take}
use Rattle.lines_law.specs.Lines.{fed}
use Rattle.sheet_law.specs.Sheet.{SheetState, sheet_reader}

-- With a first table and from the state d, some first bytes of the read were fed, and e is what they make of it; if all could be written, they are all of its bytes.
pub record ReadFed (table : List ℤ) (d : SheetState) (input : List ℕ) (e : SheetState) (written : Bool) : Type 0 where
  pub bytes : ℕ
  pub within : bytes ≤ length input
  pub after : e ≡ fed (sheet_reader table) d (take bytes input)
  pub whole : written ≡ true → bytes ≡ length input
