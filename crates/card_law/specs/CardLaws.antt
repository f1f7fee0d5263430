-- A card is read as entries exactly if it is those entries' own text, the last newline apart; so 32 entries take few bytes, and the first 4096 bytes of a file tell
-- whether it has them. By the lines: each is a pitch's own text, or there are no entries. Assumes nothing.
use Rattle.std.specs.Prelude.{ℕ, ◌≡◌, List, [], ◌∷◌, ◌++◌, ℤ}
use Rattle.sheet_law.specs.Canonical.{angle_text, FitsAngle}

-- Entries that have their width, and the lines of their text.
abbrev pub FitsEach : List ℤ → Type 0
FitsEach [] = Unit {0}
FitsEach (v ∷ vs) = FitsAngle v × FitsEach vs

unfoldable pub angle_texts : List ℤ → List (List ℕ)
angle_texts [] = []
angle_texts (v ∷ vs) = angle_text v ∷ angle_texts vs

-- Lines that are read as entries are those entries' texts.
pub record ReadBehind (us : List ℤ) (ls : List (List ℕ)) (vs : List ℤ) : Type 0 where
  pub new : List ℤ
  pub behind : vs ≡ us ++ new
  pub texts : ls ≡ angle_texts new
  pub fits : FitsEach new
