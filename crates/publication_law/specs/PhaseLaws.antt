-- Laws of phases: the places of each, tests on them, and that a moved reader or publisher keeps what Phases says. Assumes nothing.
-- rpl and ppl are the readers' and publishers' places.
use Rattle.std.specs.Prelude.{ℕ, ◌≤◌, ◌≡◌, refl, Bool, true, false, leb, eqb}
use Rattle.std.proofs.Common.{arith, sym, ap, ◌∙◌, eqb-true, ne_eqb, leb-true, leb-false, le-leb}
use Rattle.std.proofs.lemmas.Bool.{eqb-false}
use Rattle.base.specs.Base.{choose, upd}
use Rattle.base.specs.RowLaws.{same, at_or}
use Rattle.calls.specs.Numbers.{place_idle, place_claimed, place_written, place_swapped, place_synchronising, place_quiet, place_raised, place_returned}
use Rattle.calls.specs.Tally.{Phase, first_place, tally₀}
use Rattle.calls.specs.Tally.Phase.{idle, writing, swapped, synchronising, quiet, raised, returned}
use Rattle.publication_law.specs.Phases.{phase_at, Phases}

-- The places of a phase.
abbrev pub InPhase : ℕ → Phase → Type 0
InPhase pl idle = pl ≡ place_idle
InPhase pl writing = (place_claimed ≤ pl) × (pl ≤ place_written)
InPhase pl swapped = pl ≡ place_swapped
InPhase pl synchronising = pl ≡ place_synchronising
InPhase pl quiet = pl ≡ place_quiet
InPhase pl raised = pl ≡ place_raised
InPhase pl returned = place_returned ≤ pl

pub in_phase_lem : (pl : ℕ) → InPhase pl (phase_at pl)
in_phase_lem pl = go (eqb pl place_idle) refl (leb pl place_written) refl
  where
    late : (b : Bool) → eqb pl place_swapped ≡ b → (c : Bool) → eqb pl place_synchronising ≡ c → (d : Bool) → eqb pl place_quiet ≡ d → (e : Bool) → eqb pl place_raised ≡ e → place_swapped ≤ pl
        → InPhase pl (choose b swapped (choose c synchronising (choose d quiet (choose e raised returned))))
    late true eb c ec d ed e ee l = eqb-true pl 34 eb
    late false eb true ec d ed e ee l = eqb-true pl 35 ec
    late false eb false ec true ed e ee l = eqb-true pl 36 ed
    late false eb false ec false ed true ee l = eqb-true pl 37 ee
    late false eb false ec false ed false ee l =
        let not_34 = eqb-false pl 34 eb in let not_35 = eqb-false pl 35 ec in let not-36 = eqb-false pl 36 ed in let not-37 = eqb-false pl 37 ee in omega arith

    go : (a : Bool) → eqb pl place_idle ≡ a → (b : Bool) → leb pl place_written ≡ b
        → InPhase pl (choose a idle (choose b writing (choose (eqb pl place_swapped) swapped (choose (eqb pl place_synchronising) synchronising (choose (eqb pl place_quiet) quiet (choose (eqb pl place_raised) raised returned))))))
    go true ea b eb = eqb-true pl 0 ea
    go false ea true eb = let unequal = eqb-false pl 0 ea in (omega arith, leb-true pl 33 eb)
    go false ea false eb = late (eqb pl place_swapped) refl (eqb pl place_synchronising) refl (eqb pl place_quiet) refl (eqb pl place_raised) refl (leb-false pl 33 eb)

pub phase_writing : (pl : ℕ) → place_claimed ≤ pl → pl ≤ place_written → phase_at pl ≡ writing
phase_writing pl l h = rw (ne_eqb pl 0 (λ eq. omega arith), le-leb pl 33 h) refl

-- A test that is false below 35 comes out alike at a place and at the first place of its phase.
pub phase_turn : (f : ℕ → Bool) → ((pl : ℕ) → pl ≤ place_swapped → f pl ≡ false) → (pl : ℕ) → pl ≤ place_returned → f (first_place (phase_at pl)) ≡ f pl
phase_turn f early pl high = go (phase_at pl) (in_phase_lem pl)
  where
    go : (phase : Phase) → InPhase pl phase → f (first_place phase) ≡ f pl
    go idle e = ap f (sym e)
    go writing e = early 1 (omega arith) ∙ sym (early pl (omega (arith, e.1)))
    go swapped e = ap f (sym e)
    go synchronising e = ap f (sym e)
    go quiet e = ap f (sym e)
    go raised e = ap f (sym e)
    go returned e = ap f (omega arith)

module _ (place : ℕ → ℕ) (phase : ℕ → Phase) (rpl ppl : ℕ → ℕ) (i : Phases place phase rpl ppl) where
  -- A reader at another place.
  pub place_phases : (r pl : ℕ) → Phases (upd place r pl) phase (upd rpl r pl) ppl
  place_phases r pl = record { places = at_or r (rw (same r) refl) (λ j e. rw e (i.places j)); phases = i.phases }

  -- A publisher at another place, of the phase told; and of the same phase.
  pub move_phases : (p pl : ℕ) (new : Phase) → new ≡ phase_at pl → Phases place (upd phase p new) rpl (upd ppl p pl)
  move_phases p pl new e = record { places = i.places; phases = at_or p (rw (same p) e) (λ q d. rw d (i.phases q)) }

  pub stay_phases : (p pl : ℕ) → phase_at pl ≡ phase_at (ppl p) → Phases place phase rpl (upd ppl p pl)
  stay_phases p pl e = record { places = i.places; phases = at_or p (rw (same p) (i.phases p ∙ sym e)) (λ q d. rw d (i.phases q)) }

pub fresh_phases : Phases tally₀.place tally₀.phase (λ r. 0) (λ p. 0)
fresh_phases = record { places = λ r. refl; phases = λ p. refl }
