-- What the new store keeps besides the shared invariant: the definitions. Safety shows that each call keeps it.
use Rattle.std.specs.Prelude.{ℕ, ◌<◌, ◌≤◌, ◌≡◌, ◌≢◌}
use Rattle.calls.specs.Numbers.{not_reading, place_loaded, place_published}
use Rattle.layout.specs.declared.Reader.{Reader}
use Rattle.layout.specs.declared.WalkRecord.{WalkRecord}
use Rattle.publication_law.specs.DetectorInvariant.{Detector}
use Rattle.grace_version_law.specs.Steps.{looked_at}

-- Of reader r, here x, at a version.
pub record Shown (version readerCount r : ℕ) (x : Reader) : Type 0 where
  -- what it loaded first is not above the version
  pub first_low : x.first ≤ version
  -- what it loaded again is not above the version
  pub second_low : x.second ≤ version
  -- from place 2 on what it published is not above the version
  pub shown : place_published ≤ x.place → x.published ≤ version
  -- at places 0 and 1 a reader of the store has published NOT_READING
  pub out : r < readerCount → x.place ≤ place_loaded → x.published ≡ not_reading

-- A synchronise waits for a reader ..
pub record Behind (readerCount : ℕ) (x : Reader) (walk : WalkRecord) (r : ℕ) : Type 0 where
  -- .. that published a version below its mark ..
  pub below : x.published < walk.mark
  -- .. and that none of the looks of its walk has passed
  pub unpassed : (j : ℕ) → j < walk.next → looked_at readerCount j ≢ r

abbrev pub detector : Detector
detector = record {
  WaitedFor = λ readerCount x y r. Behind readerCount x y.walk r;
  early = λ readerCount x y y' r e low behind. rw e behind;
  -- each look that passed moved next by one
  passed = λ y. y.walk.next;
  Readers = λ version readerCount indicators readers. (r : ℕ) → Shown version readerCount r (readers r);
}
