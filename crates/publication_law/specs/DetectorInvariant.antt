-- What a kind adds to the shared invariant to know that a walk waits long enough: the definitions. Detector shows that each call keeps it.
use Rattle.std.specs.Prelude.{ℕ, ◌+◌, ◌≤◌, ◌≡◌, true}
use Rattle.calls.specs.Numbers.{place_swapped, place_synchronising}
use Rattle.layout.specs.declared.Reader.{Reader}
use Rattle.layout.specs.declared.Publisher.{Publisher}
use Rattle.layout.specs.Layout.{readers, version, indicator, reader_at, publisher_at}
use Rattle.statement.specs.Machine.{State}
use Rattle.statement.specs.KeptInvariant.{Pend, Ghost}

-- What a kind says of readers and walks; n is how many readers there are.
pub record Detector : Type 1 where
  -- what holds of reader r of n, here x, while a synchronise of publisher y waits for it
  pub WaitedFor : (n : ℕ) → Reader → Publisher → (r : ℕ) → Type 0
  -- below 35 that is of the walk's numbers alone
  pub early : (n : ℕ) (x : Reader) (y y' : Publisher) (r : ℕ) → y'.walk ≡ y.walk → y'.place ≤ place_swapped → WaitedFor n x y r → WaitedFor n x y' r
  -- how many of a walk's looks passed
  pub passed : Publisher → ℕ
  -- what holds of the n readers and the indicators at a version
  pub Readers : (version n : ℕ) (indicators : ℕ → ℕ) (readers : ℕ → Reader) → Type 0

pub record DetectorInvariant (D : Detector) (pend : Pend) (version readerCount : ℕ) (indicators : ℕ → ℕ) (readers : ℕ → Reader) (publishers : ℕ → Publisher) : Type 0 where
  -- of each reader that a synchronise still waits for the kind's WaitedFor holds
  pub waited_for : (p r : ℕ) → pend p r ≡ true → D.WaitedFor readerCount (readers r) (publishers p) r
  -- each look passed or waited
  pub counted : (p : ℕ) → place_synchronising ≤ (publishers p).place → (publishers p).walk.looks ≡ D.passed (publishers p) + (publishers p).walk.waits
  -- the readers and the indicators are as the kind says
  pub readers_are : D.Readers version readerCount indicators readers

-- The same of a store's words, where the calls told g.
abbrev pub invariant_of : Detector → Ghost → State → Type 0
invariant_of D g s = DetectorInvariant D g.pend (version s.words) (readers s.words) (indicator s.words) (reader_at s.words) (publisher_at s.words)
