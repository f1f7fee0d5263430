-- The lines of a text; a reader of lines, over a whole text, and byte by byte as it is read.
use Rattle.std.specs.Prelude.{ℕ, Bool, true, false, List, [], ◌∷◌, ◌++◌, eqb, ltb, length}
use Rattle.base.specs.Base.{choose}

abbrev pub newline_byte : ℕ
newline_byte = 10

abbrev pub is_empty : List ℕ → Bool
is_empty [] = true
is_empty (b ∷ l) = false

-- The lines of a text, of whose first some bytes are read already. The last line may lack its newline.
unfoldable pub lines_from : List ℕ → List ℕ → List (List ℕ)
lines_from begun [] = choose (is_empty begun) [] (begun ∷ [])
lines_from begun (b ∷ t) = choose (eqb b newline_byte) (begun ∷ lines_from [] t) (lines_from (begun ++ (b ∷ [])) t)

abbrev pub lines_of : List ℕ → List (List ℕ)
lines_of t = lines_from [] t

-- A reader of lines: what it keeps from line to line, what a line makes of that, and what is printed for the line.
-- It reads no line of more than `longest` bytes.
pub record LineReader : Type 1 where
  pub Kept : Type 0
  pub after : Kept → List ℕ → Kept
  pub says : Kept → List ℕ → List ℕ
  pub longest : ℕ

-- Between two bytes: what is kept of the line that was begun, and what is kept from the lines before.
pub record Midway (Kept : Type 0) : Type 0 where
  pub begun : List ℕ
  pub kept : Kept

abbrev pub midway : {Kept : Type 0} → List ℕ → Kept → Midway Kept
midway begun kept = record { begun = begun; kept = kept }

module _ (L : LineReader) where
  -- Line by line: all that is printed, and what is kept at the end.
  unfoldable pub printed_for : L.Kept → List (List ℕ) → List ℕ
  printed_for kept [] = []
  printed_for kept (l ∷ ls) = L.says kept l ++ printed_for (L.after kept l) ls

  unfoldable pub after_lines : L.Kept → List (List ℕ) → L.Kept
  after_lines kept [] = kept
  after_lines kept (l ∷ ls) = after_lines (L.after kept l) ls

  -- Of a longer line, one byte more than the longest is kept: it tells that it is one.
  abbrev pub joined : List ℕ → ℕ → List ℕ
  joined begun b = choose (ltb L.longest (length begun)) begun (begun ++ (b ∷ []))

  -- A newline ends the line and every other byte joins it.
  abbrev pub byte : Midway L.Kept → ℕ → Midway L.Kept
  byte d b = choose (eqb b newline_byte) (midway [] (L.after d.kept d.begun)) (midway (joined d.begun b) d.kept)

  abbrev pub said_at : Midway L.Kept → ℕ → List ℕ
  said_at d b = choose (eqb b newline_byte) (L.says d.kept d.begun) []

  unfoldable pub fed : Midway L.Kept → List ℕ → Midway L.Kept
  fed d [] = d
  fed d (b ∷ t) = fed (byte d b) t

  unfoldable pub printed : Midway L.Kept → List ℕ → List ℕ
  printed d [] = []
  printed d (b ∷ t) = said_at d b ++ printed (byte d b) t

-- At the end of the input a line that was begun is the last line.
abbrev pub ending : List ℕ → List ℕ
ending begun = choose (is_empty begun) [] (newline_byte ∷ [])
