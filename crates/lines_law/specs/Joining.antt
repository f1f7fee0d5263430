-- A text and its lines: a text is its lines, each with a newline behind it; the last one's may be missing. Assumes nothing.
use Rattle.std.specs.Prelude.{ℕ, ◌≡◌, ◌≢◌, ◌⊎◌, List, [], ◌∷◌, ◌++◌}
use Rattle.lines_law.specs.Lines.{newline_byte}

-- The text that has these lines, each with its newline.
unfoldable pub joined_lines : List (List ℕ) → List ℕ
joined_lines [] = []
joined_lines (l ∷ ls) = l ++ (newline_byte ∷ joined_lines ls)

-- No byte of it is a newline.
abbrev pub OneLine : List ℕ → Type 0
OneLine [] = Unit {0}
OneLine (b ∷ l) = (b ≢ newline_byte) × OneLine l

abbrev pub OneLineEach : List (List ℕ) → Type 0
OneLineEach [] = Unit {0}
OneLineEach (l ∷ ls) = OneLine l × OneLineEach ls

-- A text is its lines joined, or is when a newline ends it.
abbrev pub IsJoined : List ℕ → List ℕ → Type 0
IsJoined t j = (t ≡ j) ⊎ (t ++ (newline_byte ∷ []) ≡ j)
