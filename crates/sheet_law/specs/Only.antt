-- A line is read as a command exactly if it is that command's own text and its arguments have their widths: every other line is unread, whatever is wrong with
-- it. By going through the reading once: each step is unread, or tells what the bytes are. Assumes nothing.
use Rattle.std.specs.Prelude.{ℕ, ◌≡◌, List, [], ◌∷◌, Option, Some, None}
use Rattle.sheet_law.specs.Text.{text}
use Rattle.sheet_law.specs.Reading.{Naming}
use Rattle.sheet_law.specs.Reading.Naming.{◌names◌}

-- To show something of what a text names, it is shown for each row whose text it is, and for none.
abbrev pub EachNaming : {A : Type 0} → (Option A → Type 0) → List ℕ → List (Naming A) → Type 0
EachNaming Q word [] = Q None
EachNaming Q word ((name names x) ∷ rows) = (text name ≡ word → Q (Some x)) × EachNaming Q word rows
