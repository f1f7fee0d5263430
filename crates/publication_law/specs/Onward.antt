-- What one ENTER does with a reader's place and pick, in every kind with sections.
use Rattle.std.specs.Prelude.{ℕ, ◌≤◌, ◌≡◌}
use Rattle.calls.specs.Numbers.{place_loaded_again, place_open, place_picked}

-- From place and pick to newPlace and newPick: below 4 the reader stays out; from there its section opens, at 4; from 4 it picks the current slot, at 5.
pub data Onward (current place choose newPlace newPick : ℕ) : Type 0 where
  stays_out : place ≤ place_loaded_again → newPlace ≤ place_loaded_again → newPick ≡ choose → Onward current place choose newPlace newPick
  opens : place ≤ place_loaded_again → newPlace ≡ place_open → newPick ≡ choose → Onward current place choose newPlace newPick
  picks : place ≡ place_open → newPlace ≡ place_picked → newPick ≡ current → Onward current place choose newPlace newPick
