-- What the calls told of readers' places and publishers' phases is what the store records: the definitions. PhaseLaws shows that each call keeps it.
use Rattle.std.specs.Prelude.{ℕ, ◌≡◌, leb, eqb}
use Rattle.base.specs.Base.{choose}
use Rattle.calls.specs.Numbers.{place_idle, place_written, place_swapped, place_synchronising, place_quiet, place_raised}
use Rattle.calls.specs.Tally.{Phase}
use Rattle.calls.specs.Tally.Phase.{idle, writing, swapped, synchronising, quiet, raised, returned}

-- The phase that a publisher's place tells.
abbrev pub phase_at : ℕ → Phase
phase_at place =
    choose (eqb place place_idle) idle (
    choose (leb place place_written) writing (
    choose (eqb place place_swapped) swapped (
    choose (eqb place place_synchronising) synchronising (
    choose (eqb place place_quiet) quiet (
    choose (eqb place place_raised) raised returned)))))

-- Readers' places and publishers' phases as told, beside readers' and publishers' places as stored.
pub record Phases (toldPlace : ℕ → ℕ) (toldPhase : ℕ → Phase) (readerPlace publisherPlace : ℕ → ℕ) : Type 0 where
  -- the place that a reader's last ENTER replied is its place
  pub places : (r : ℕ) → toldPlace r ≡ readerPlace r
  -- what a publisher did last is what its place tells
  pub phases : (p : ℕ) → toldPhase p ≡ phase_at (publisherPlace p)
