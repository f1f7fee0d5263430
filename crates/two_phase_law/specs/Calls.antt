-- What the code of the old store asks of an undamaged store, and what its accepted calls give. Assumes nothing.
use Rattle.std.specs.Prelude.{ℕ, ◌≤◌, ◌≡◌, false, List, [], ◌∷◌}
use Rattle.base.specs.Rows.{any_true, count_below}
use Rattle.calls.specs.Numbers.{place_open}
use Rattle.layout.specs.declared.Reader.{Reader}
use Rattle.layout.specs.Layout.{reader_at}
use Rattle.two_phase_law.specs.Steps.{reader_rows, added_to}

-- How many of the first n readers added to each indicator, as the pass over the readers counts them.
abbrev pub added_counts : List ℕ → ℕ → List ℕ
added_counts w n = count_below (λ r. added_to 0 (reader_at w r)) n ∷ count_below (λ r. added_to 1 (reader_at w r)) n ∷ []

-- What the pass over the readers finds at a reader, by its place.
pub record InSection (ss : ℕ) (x : Reader) : Type 0 where
  pub fits : any_true (reader_rows ss x) ≡ false
  pub arrived : place_open ≤ x.place
