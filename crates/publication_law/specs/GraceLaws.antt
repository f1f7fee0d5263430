-- Each call keeps what Grace says of open sections and of whom a synchronise waits for, and at 38 nobody has picked a former slot. Assumes nothing.
-- t is what is told, pend who is waited for; rpl and rpk are the readers' places and picks, ppl the publishers' places, F their former slots.
use Rattle.std.specs.Prelude.{ℕ, ◌≤◌, ◌≡◌, refl, Bool, true, false, leb, eqb}
use Rattle.std.proofs.Common.{arith, sym, ◌∙◌, eqb-true, ne_eqb, leb-true}
use Rattle.std.proofs.lemmas.Bool.{eqb-false, lt-leb}
use Rattle.base.specs.Base.{upd}
use Rattle.base.specs.RowLaws.{clash, not_both, same, at_or}
use Rattle.calls.specs.declared.Call.TheVariants.{Enter, Leave, Sync}
use Rattle.calls.specs.declared.Reply.{Reply}
use Rattle.calls.specs.declared.Reply.TheVariants.{At}
use Rattle.calls.specs.Numbers.{place_out, place_open, place_picked, place_idle, place_swapped, place_synchronising, place_raised, place_returned}
use Rattle.calls.specs.Told.{Told, told₀, tell}
use Rattle.statement.specs.KeptInvariant.{Pend, pending}
use Rattle.publication_law.specs.Onward.{Onward}
use Rattle.publication_law.specs.Onward.Onward.{stays_out, opens, picks}
use Rattle.publication_law.specs.Grace.{Awaited, Grace}

-- By an ENTER an open section stays open, and what is picked is current.
onward_open : {cur pl pk pl' pk' : ℕ} → Onward cur pl pk pl' pk' → place_open ≤ pl → place_open ≤ pl'
onward_open (stays_out old new e) l = absurd (omega arith)
onward_open (opens old new e) l = omega arith
onward_open (picks old new e) l = omega arith

onward_picked : {cur pl pk pl' pk' : ℕ} → Onward cur pl pk pl' pk' → pl' ≡ place_picked → pk' ≡ cur
onward_picked (stays_out old new e) five = absurd (omega arith)
onward_picked (opens old new e) five = absurd (omega arith)
onward_picked (picks old new e) five = e

module _ (t : Told) (pend : Pend) (rpl rpk ppl : ℕ → ℕ) (F : ℕ → ℕ → Bool) (grace : Grace t.inside pend rpl rpk ppl F) where
  enter_inside : (cur r pl pk : ℕ) → Onward cur (rpl r) (rpk r) pl pk → (j : ℕ) → (tell t (Enter r) (At pl)).inside j ≡ leb place_open (upd rpl r pl j)
  enter_inside cur r pl pk (stays_out old new e) = rw (ne_eqb pl 4 (λ eq. omega arith), ne_eqb pl 5 (λ eq. omega arith))
      (at_or r (rw (same r) (grace.inside_is r ∙ rw (lt-leb 4 (rpl r) (omega arith), lt-leb 4 pl (omega arith)) refl)) (λ j d. rw d (grace.inside_is j)))
  enter_inside cur r pl pk (opens old new e) = rw new (at_or r (rw (same r) refl) (λ j d. rw d (grace.inside_is j)))
  enter_inside cur r pl pk (picks old new e) = rw new (at_or r (rw (same r) (grace.inside_is r ∙ rw old refl)) (λ j d. rw d (grace.inside_is j)))

  -- ENTER, where the current slot is no former one.
  pub enter_grace : (cur r pl pk : ℕ) → Onward cur (rpl r) (rpk r) pl pk → ((p : ℕ) → F p cur ≡ true → ⊥) → Grace (tell t (Enter r) (At pl)).inside pend (upd rpl r pl) (upd rpk r pk) ppl F
  enter_grace cur r pl pk on not_former = record {
    inside_is = enter_inside cur r pl pk on;
    awaited = λ p. at_or r (rw (same r) (λ e. let awaits = grace.awaited p r e in record { opened = onward_open on awaits.opened; low = awaits.low; high = awaits.high })) (λ j d. rw d (grace.awaited p j));
    covered = λ p. at_or r (rw (same r) (λ five e _. absurd (not_former p (rw (onward_picked on five) at e)))) (λ j d. rw d (grace.covered p j));
  }

  pub leave_grace : (r pk : ℕ) (a : Reply) → Grace (tell t (Leave r) a).inside (pending pend t (Leave r)) (upd rpl r place_out) (upd rpk r pk) ppl F
  leave_grace r pk a = record {
    inside_is = at_or r (rw (same r) refl) (λ j d. rw d (grace.inside_is j));
    awaited = λ p. at_or r (rw (same r) (λ e. clash (sym e))) (λ j d. rw d (grace.awaited p j));
    covered = λ p. at_or r (rw (same r) (λ five. absurd (omega arith))) (λ j d. rw d (grace.covered p j));
  }

  -- A publisher that moves, and waits for the same readers as before.
  move_grace : (p pl : ℕ) (G : ℕ → Bool) → ((r : ℕ) → pend p r ≡ true → Awaited (rpl r) pl) → ((r : ℕ) → rpl r ≡ place_picked → G (rpk r) ≡ true → place_synchronising ≤ pl → pend p r ≡ true)
      → Grace t.inside pend rpl rpk (upd ppl p pl) (upd F p G)
  move_grace p pl G awaits covers = record {
    inside_is = grace.inside_is;
    awaited = at_or p (rw (same p) awaits) (λ q d. rw d (grace.awaited q));
    covered = at_or p (rw (same p) covers) (λ q d. rw d (grace.covered q));
  }

  -- CLAIM, WRITE, SWAP.
  pub early_grace : (p pl : ℕ) (G : ℕ → Bool) → ppl p ≤ place_swapped → pl ≤ place_swapped → Grace t.inside pend rpl rpk (upd ppl p pl) (upd F p G)
  early_grace p pl G old new = move_grace p pl G (λ r e. absurd (omega (arith, (grace.awaited p r e).low))) (λ r five e l. absurd (omega arith))

  -- From 35 to 37 a synchronise moves on, and it ends where it waits for nobody.
  pub wait_grace : (p pl : ℕ) (G : ℕ → Bool) → place_synchronising ≤ ppl p → place_synchronising ≤ pl → pl ≤ place_returned → (pl ≡ place_returned → (r : ℕ) → pend p r ≡ false) → ((x : ℕ) → G x ≡ F p x)
      → Grace t.inside pend rpl rpk (upd ppl p pl) (upd F p G)
  wait_grace p pl G low new top done same-F = move_grace p pl G
      (λ r e. let awaits = grace.awaited p r e in record { opened = awaits.opened; low = new; high = not38 r e (eqb pl 38) refl })
      (λ r five e _. grace.covered p r five (sym (same-F _) ∙ e) low)
    where
      not38 : (r : ℕ) → pend p r ≡ true → (b : Bool) → eqb pl place_returned ≡ b → pl ≤ place_raised
      not38 r e true d = absurd (not_both _ e (done (eqb-true pl 38 d) r))
      not38 r e false d = let unequal = eqb-false pl 38 d in omega arith

  pub sync_grace : (p : ℕ) (G : ℕ → Bool) → Grace t.inside (pending pend t (Sync p)) rpl rpk (upd ppl p place_synchronising) (upd F p G)
  sync_grace p G = record {
    inside_is = grace.inside_is;
    awaited = at_or p (rw (same p) (λ r e. record { opened = leb-true 4 (rpl r) (sym (grace.inside_is r) ∙ e); low = omega arith; high = omega arith })) (λ q d. rw d (grace.awaited q));
    covered = at_or p (rw (same p) (λ r five e _. grace.inside_is r ∙ rw five refl)) (λ q d. rw d (grace.covered q));
  }

  -- At 38 nobody has picked a former slot.
  pub nobody : (p : ℕ) → ppl p ≡ place_returned → (r : ℕ) → rpl r ≡ place_picked → F p (rpk r) ≡ true → ⊥
  nobody p at38 r five e = omega (arith, (grace.awaited p r (grace.covered p r five e (omega arith))).high)

  pub release_grace : (p : ℕ) (G : ℕ → Bool) → ppl p ≡ place_returned → Grace t.inside pend rpl rpk (upd ppl p place_idle) (upd F p G)
  release_grace p G at38 = move_grace p 0 G (λ r e. absurd (omega (arith, (grace.awaited p r e).high))) (λ r five e l. absurd (omega arith))

pub fresh_grace : (n : ℕ) → Grace (told₀ n).inside (λ p r. false) (λ r. 0) (λ r. 0) (λ p. 0) (λ p x. false)
fresh_grace n = record { inside_is = λ r. refl; awaited = λ p r e. clash (sym e); covered = λ p r five. absurd (omega arith) }
