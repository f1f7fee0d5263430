-- What the old store keeps besides the shared invariant: the definitions. Counts and Safety show that each call keeps it.
use Rattle.std.specs.Prelude.{ℕ, ◌<◌, ◌≤◌, ◌≡◌, ◌≢◌, eqb}
use Rattle.std.proofs.Common.{arith}
use Rattle.base.specs.Base.{choose}
use Rattle.base.specs.Rows.{count_below}
use Rattle.calls.specs.Numbers.{place_synchronising, place_quiet, place_returned}
use Rattle.layout.specs.declared.Reader.{Reader}
use Rattle.layout.specs.Layout.{indicator_count}
use Rattle.publication_law.specs.DetectorInvariant.{Detector}
use Rattle.two_phase_law.specs.Steps.{parity, added_to}

-- Each indicator is the number of readers that added to it.
abbrev pub Counted : ℕ → (ℕ → ℕ) → (ℕ → Reader) → Type 0
Counted readerCount indicators readers = (i : ℕ) → i < indicator_count → indicators i ≡ count_below (λ r. added_to i (readers r)) readerCount

-- How many of a walk's two looks have passed at a place: one at 35, the other at 37.
abbrev pub passed_at : ℕ → ℕ
passed_at place = choose (eqb place place_synchronising) 0 (choose (eqb place place_returned) 2 1)

abbrev pub detector : Detector
detector = record {
  -- from 36 on a synchronise waits only for readers that added to the other indicator
  WaitedFor = λ readerCount x y r. place_quiet ≤ y.place → parity x.first ≢ parity y.walk.mark;
  early = λ readerCount x y y' r e low waited_for l. absurd (omega arith);
  passed = λ y. passed_at y.place;
  Readers = λ version readerCount indicators readers. Counted readerCount indicators readers;
}
