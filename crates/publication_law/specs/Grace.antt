-- What a kind with sections, SYNC and RELEASE keeps besides: whose section is open, and for which readers a synchronise has still to wait. The definitions; GraceLaws shows that each call keeps it.
use Rattle.std.specs.Prelude.{ℕ, ◌≤◌, ◌≡◌, Bool, true, leb}
use Rattle.calls.specs.Numbers.{place_open, place_picked, place_synchronising, place_raised}
use Rattle.statement.specs.KeptInvariant.{Pend}

-- Where a reader and a publisher are whose synchronise has still to wait for that reader: the reader inside, the publisher at 35 to 37.
pub record Awaited (readerPlace publisherPlace : ℕ) : Type 0 where
  pub opened : place_open ≤ readerPlace
  pub low : place_synchronising ≤ publisherPlace
  pub high : publisherPlace ≤ place_raised

-- pend p r: the section of r was open at the last SYNC of p and has not been left since.
pub record Grace (inside : ℕ → Bool) (pend : Pend) (readerPlace readerPick publisherPlace : ℕ → ℕ) (formerSlots : ℕ → ℕ → Bool) : Type 0 where
  -- a section is told open from place 4 up
  pub inside_is : (r : ℕ) → inside r ≡ leb place_open (readerPlace r)
  -- a reader that is waited for is inside, and the publisher that waits at 35 to 37
  pub awaited : (p r : ℕ) → pend p r ≡ true → Awaited (readerPlace r) (publisherPlace p)
  -- a reader that picked a former slot of a publisher that synchronises is waited for
  pub covered : (p r : ℕ) → readerPlace r ≡ place_picked → formerSlots p (readerPick r) ≡ true → place_synchronising ≤ publisherPlace p → pend p r ≡ true
