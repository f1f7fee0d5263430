-- Each call keeps what Tallied says of waits and releases. Assumes nothing.
-- waits and count are what is told, ppl and pws the publishers' places and waits, rel the releases.
use Rattle.std.specs.Prelude.{ℕ, suc, ◌+◌, ◌%◌, ◌≤◌, ◌≡◌, refl, false, eqb}
use Rattle.std.proofs.Common.{arith, sym, ◌∙◌}
use Rattle.base.specs.Base.{upd}
use Rattle.base.specs.RowLaws.{same, at_or}
use Rattle.calls.specs.Numbers.{number_modulus, place_idle, place_swapped, place_synchronising}
use Rattle.calls.specs.Tally.{tally₀}
use Rattle.publication_law.specs.Tallied.{Tallied}

module _ (waits : ℕ → ℕ) (count : ℕ) (ppl pws : ℕ → ℕ) (rel : ℕ) (i : Tallied waits count ppl pws rel) where
  -- A publisher at another place, with what is told of its waits.
  move_tallied : (p pl ws : ℕ) (ω : ℕ → ℕ) → (place_synchronising ≤ pl → ω p ≡ ws) → ((q : ℕ) → eqb q p ≡ false → ω q ≡ waits q) → Tallied ω count (upd ppl p pl) (upd pws p ws) rel
  move_tallied p pl ws ω told others = record {
    waits_are = at_or p (rw (same p) told) (λ q d. rw d (λ l. others q d ∙ i.waits_are q l));
    releases_are = i.releases_are;
  }

  -- CLAIM, WRITE and SWAP.
  pub early_tallied : (p pl ws : ℕ) → pl ≤ place_swapped → Tallied waits count (upd ppl p pl) (upd pws p ws) rel
  early_tallied p pl ws low = move_tallied p pl ws waits (λ l. absurd (omega arith)) (λ q d. refl)

  pub sync_tallied : (p : ℕ) → Tallied (upd waits p 0) count (upd ppl p place_synchronising) (upd pws p 0) rel
  sync_tallied p = move_tallied p 35 0 _ (λ l. rw (same p) refl) (λ q d. rw d refl)

  -- A WALK that replies waiting; and a RAISE and any other WALK.
  pub wait_tallied : (p pl : ℕ) → place_synchronising ≤ ppl p → Tallied (upd waits p (suc (waits p))) count (upd ppl p pl) (upd pws p (pws p + 1)) rel
  wait_tallied p pl low = move_tallied p pl _ _ (λ l. rw (same p) (omega (arith, i.waits_are p low))) (λ q d. rw d refl)

  pub late_tallied : (p pl ws : ℕ) → place_synchronising ≤ ppl p → ws ≡ pws p → Tallied waits count (upd ppl p pl) (upd pws p ws) rel
  late_tallied p pl ws low e = move_tallied p pl ws waits (λ l. i.waits_are p low ∙ sym e) (λ q d. refl)

  pub release_tallied : (p ws : ℕ) → Tallied waits (suc count) (upd ppl p place_idle) (upd pws p ws) ((rel + 1) % number_modulus)
  release_tallied p ws = record {
    waits_are = at_or p (rw (same p) (λ l. absurd (omega arith))) (λ q d. rw d (i.waits_are q));
    releases_are = omega (arith, i.releases_are);
  }

pub fresh_tallied : Tallied tally₀.waits tally₀.releases (λ p. 0) (λ p. 0) 0
fresh_tallied = record { waits_are = λ p l. absurd (omega arith); releases_are = refl }
