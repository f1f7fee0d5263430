-- The walk's facts, once over the reader count: a walk passes only readers that published its mark or more, and counts its looks. Assumes nothing.
use Prim.Native.Nat.{ℕ, ◌+◌, ◌<◌, ◌≤◌}
use Rattle.std.specs.Prelude.{◌≡◌, List}
use Rattle.calls.specs.declared.WalkReply.{WalkReply}
use Rattle.calls.specs.declared.WalkReply.TheVariants.{Waiting, Spent, Quiet, Returned}
use Rattle.layout.specs.declared.WalkResult.{WalkResult}
use Rattle.layout.specs.Layout.{reader_at}
use Rattle.publication_law.specs.GraceKeeps.{waits_after}
use Rattle.grace_version_law.specs.Steps.{looked_at}

-- What a reply says of the numbers that it comes with, in a walk that began at `start` with up to b looks:
-- waiting names the reader looked at last, which did not pass; spent that b looks all passed and next is still below the count; returned that all passed.
abbrev pub Ends : List ℕ → ℕ → ℕ → ℕ → ℕ → ℕ → ℕ → ℕ → WalkReply → Type 0
Ends w n mark start b next looks waits (Waiting r) = (next < n) × (next < start + b) × (r ≡ looked_at n next) × ((reader_at w r).published < mark)
Ends w n mark start b next looks waits Spent = (next < n) × (next ≡ start + b)
Ends w n mark start b next looks waits Quiet = ⊥
Ends w n mark start b next looks waits (Returned looks' waits') = (next ≡ n) × (next ≤ start + b) × (looks' ≡ looks) × (waits' ≡ waits)

pub record LooksFacts (w : List ℕ) (n mark b next looks waits : ℕ) (result : WalkResult) : Type 0 where
  pub mark_same : result.walk.mark ≡ mark
  pub ahead : next ≤ result.walk.next
  pub passed : (i : ℕ) → next ≤ i → i < result.walk.next → mark ≤ (reader_at w (looked_at n i)).published
  pub ends : Ends w n mark next b result.walk.next result.walk.looks result.walk.waits result.reply
  -- each look passed a reader or waited
  pub counted : result.walk.looks + next + waits ≡ looks + result.walk.next + result.walk.waits
  pub waits_are : result.walk.waits ≡ waits_after waits result.reply
