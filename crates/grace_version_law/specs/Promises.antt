-- The theorems about the new store. Assumes nothing.
use Rattle.std.specs.Prelude.{ℕ, ◌+◌, ◌<◌, ◌≤◌, ◌≡◌}
use Rattle.calls.specs.declared.WalkReply.TheVariants.{Spent}
use Rattle.layout.specs.declared.WalkResult.{WalkResult}
use Rattle.layout.specs.Layout.{readers}
use Rattle.statement.specs.Machine.{State}
use Rattle.publication_law.specs.Steps.{reader, publisher}
use Rattle.grace_version_law.specs.Steps.{looked_at}
use Rattle.grace_version_law.specs.Walks.{LooksFacts}

-- What an accepted WALK says of its looks: waiting, spent and returned are said of the looks made, and spent exactly if b looks all passed and readers are left.
pub record WalkLooks (s : State) (p b : ℕ) (result : WalkResult) : Type 0 where
  pub looks_are : LooksFacts s.words (readers s.words) (publisher s p).walk.mark b (publisher s p).walk.next (publisher s p).walk.looks (publisher s p).walk.waits result
  pub spent_exactly : (publisher s p).walk.next + b < readers s.words
      → ((i : ℕ) → (publisher s p).walk.next ≤ i → i < (publisher s p).walk.next + b → (publisher s p).walk.mark ≤ (reader s (looked_at (readers s.words) i)).published) → result.reply ≡ Spent
