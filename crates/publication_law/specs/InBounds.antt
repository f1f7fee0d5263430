-- What the code that the kinds share asks of a store's words, and that every undamaged store has it. Assumes nothing.
use Rattle.std.specs.Prelude.{ℕ, ◌<◌, ◌≤◌, ◌≡◌, List, length}
use Rattle.calls.specs.Numbers.{readers_max, publishers_max, slots_max, place_picked, place_claimed}
use Rattle.layout.specs.declared.Publisher.{Publisher}
use Rattle.layout.specs.Layout.{words_length, readers, publishers, slots, reader_at, publisher_at}

pub record InBounds (w : List ℕ) : Type 0 where
  pub long : length w ≡ words_length
  pub readers_high : readers w ≤ readers_max
  pub publishers_high : publishers w ≤ publishers_max
  pub slots_high : slots w ≤ slots_max
  pub picked_below : (r : ℕ) → r < readers w → (reader_at w r).place ≡ place_picked → (reader_at w r).picked < slots w
  pub held_below : (p : ℕ) → p < publishers w → place_claimed ≤ (publisher_at w p).place → (publisher_at w p).held < slots w

-- From 35 to 38 a publisher waited at most as often as it looked.
pub record Synchronising (y : Publisher) : Type 0 where
  pub waits_low : y.walk.waits ≤ y.walk.looks
