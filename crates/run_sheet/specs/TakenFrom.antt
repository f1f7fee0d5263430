-- What is taken of a card.
use Rattle.std.specs.Prelude.{ℕ, ◌≤◌, ◌≡◌, List, ℤ, length, take}
use Rattle.card_law.specs.Card.{card_of, card_kept}

-- `size` bytes were read, and the first `count` of the room are their entries, 33 at most. Where the card cannot be read `size` is 0, and so is `count`.
pub record TakenFrom (bytes : List ℕ) (size : ℕ) (room : List ℤ) (count : ℕ) : Type 0 where
  pub read : size ≤ length bytes
  pub within : count ≤ length room
  pub entries : take count room ≡ take card_kept (card_of (take size bytes))

-- The same of some bytes that were read.
pub record TakenFromSome (room : List ℤ) (count : ℕ) : Type 0 where
  pub bytes : List ℕ
  pub size : ℕ
  pub taken : TakenFrom bytes size room count
