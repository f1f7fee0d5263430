-- In the old store an accepted RAISE is never shared, after every list of calls from fresh.
-- Why: one publisher at most is out of place 0, and at 35 and 36 its mark is the successor of the version, which no other publisher can raise. Assumes nothing.
use Rattle.std.specs.Prelude.{ℕ, ◌<◌, ◌≤◌, ◌≢◌}
use Rattle.std.proofs.Math.Path.{◌≡◌}
use Rattle.calls.specs.Numbers.{place_idle, place_synchronising, place_quiet}
use Rattle.layout.specs.Layout.{publishers, version}
use Rattle.statement.specs.Machine.{State}
use Rattle.publication_law.specs.Steps.{publisher}
use Rattle.two_phase_law.specs.Steps.{versions}

pub record OneBusy (s : State) : Type 0 where
  -- while a publisher is at another place than 0, every other one is at 0
  pub others_idle : (p q : ℕ) → p < publishers s.words → q < publishers s.words → q ≢ p → (publisher s p).place ≢ place_idle → (publisher s q).place ≡ place_idle
  -- at 35 and 36 its mark is the version's successor
  pub mark_next : (p : ℕ) → p < publishers s.words → place_synchronising ≤ (publisher s p).place → (publisher s p).place ≤ place_quiet → (publisher s p).walk.mark ≡ versions.mark_at (version s.words)
