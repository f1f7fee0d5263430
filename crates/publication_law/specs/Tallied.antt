-- What the calls told of waits and releases is what the store records: the definition. TallyLaws shows that each call keeps it.
use Rattle.std.specs.Prelude.{ℕ, ◌%◌, ◌≤◌, ◌≡◌}
use Rattle.calls.specs.Numbers.{number_modulus, place_synchronising}

-- Waits and releases as told, beside the publishers' places and waits and the releases as stored.
pub record Tallied (toldWaits : ℕ → ℕ) (toldReleases : ℕ) (publisherPlace publisherWaits : ℕ → ℕ) (releases : ℕ) : Type 0 where
  -- from its SYNC until its RELEASE a publisher's waits are how often its WALK replied waiting
  pub waits_are : (p : ℕ) → place_synchronising ≤ publisherPlace p → toldWaits p ≡ publisherWaits p
  -- releases are how many RELEASEs were accepted, modulo 2^64
  pub releases_are : toldReleases % number_modulus ≡ releases
