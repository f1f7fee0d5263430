-- What stays of a participant's retired slots, for any test of one: those with a mark above the least, in their order; and nothing else of the words moves. Assumes nothing.
use Rattle.std.specs.Prelude.{ℕ, ◌+◌, ◌<◌, ◌≤◌, ◌≡◌, Bool, false, List, get_or, length, eqb}
use Rattle.base.specs.Rows.{any_below, count_below}
use Rattle.layout.specs.declared.Retired.{Retired}
use Rattle.layout.specs.Layout.{head_word_count, reader_at, publisher_at, retirement_at, retired_at}
use Rattle.qsbr_law.specs.Steps.{Stay}

-- Whether a test holds of one of the first n retired slots of p, and of one of n from i on.
abbrev pub any_first : (Retired → Bool) → List ℕ → ℕ → ℕ → Bool
any_first f w p n = any_below (λ i. f (retired_at w p i)) n

-- Of how many of them it holds.
abbrev pub count_first : (Retired → Bool) → List ℕ → ℕ → ℕ → ℕ
count_first f w p n = count_below (λ i. f (retired_at w p i)) n

-- What freeing leaves: the length, the head, readers, publishers, retirements, and every other participant's retired slots; and at most as many stay as there were.
pub record Frees (p j n : ℕ) (w : List ℕ) (after : Stay) : Type 0 where
  pub long : length after.words ≡ length w
  pub head : (i : ℕ) → i < head_word_count → get_or after.words i 0 ≡ get_or w i 0
  pub readers_stay : reader_at after.words ≡ reader_at w
  pub publishers_stay : publisher_at after.words ≡ publisher_at w
  pub retirements_stay : retirement_at after.words ≡ retirement_at w
  pub others_stay : (q : ℕ) → eqb q p ≡ false → retired_at after.words q ≡ retired_at w q
  pub count_high : after.count ≤ j + n
