-- The indicators count the readers that added to them, and one look at an indicator. Assumes nothing.
use Rattle.std.specs.Prelude.{ℕ, ◌+◌, ◌-◌, ◌<◌, ◌≤◌, refl, ◌≢◌, ◌⊎◌, Bool, true, false, ◌||◌, leb, eqb}
use Rattle.std.proofs.Common.{arith, ◌∙◌, inl, inr}
use Rattle.std.proofs.Math.Path.{◌≡◌, sym}
use borrow.Author.Tests.{eqb-true, eqb-false, eq-eqb, ne_eqb, le-leb, lt-leb}
use Rattle.base.specs.Base.{choose, upd}
use Rattle.base.specs.Rows.{count_below}
use Rattle.base.specs.RowLaws.{and_false, negated, neither, choose_split, same, count_zero, count_upd}
use Rattle.calls.specs.declared.WalkReply.TheVariants.{Quiet, Waiting, Spent, Returned}
use Rattle.calls.specs.Numbers.{place_loaded_again, place_open, place_synchronising, place_raised, place_returned}
use Rattle.layout.specs.declared.Reader.{Reader}
use Rattle.layout.specs.declared.Publisher.{Publisher}
use Rattle.layout.specs.declared.WalkResult.{WalkResult}
use Rattle.layout.specs.Layout.{readers, indicator, reader_at}
use Rattle.statement.specs.Machine.{State}
use Rattle.publication_law.specs.Steps.{place_after}
use Rattle.publication_law.specs.GraceKeeps.{waits_after}
use Rattle.two_phase_law.specs.Steps.{parity, added_to, miscounted, looked_at, look_result, look_at}
use Rattle.two_phase_law.specs.KindInvariant.{Counted, passed_at}

pub counted_to : (s : State) → Counted (readers s.words) (indicator s.words) (reader_at s.words) → miscounted s 0 || miscounted s 1 ≡ false
counted_to s counted = neither (miscounted s 0) (miscounted s 1) (negated _ (eq-eqb _ _ (counted 0 (omega arith)))) (negated _ (eq-eqb _ _ (counted 1 (omega arith))))

-- No reader at 4 or 5 added to an indicator that is zero.
pub none_added : (n : ℕ) (ind : ℕ → ℕ) (X : ℕ → Reader) → Counted n ind X → (i : ℕ) → i < 2 → ind i ≡ 0 → (r : ℕ) → r < n → place_open ≤ (X r).place → parity (X r).first ≢ i
none_added n ind X counted i i2 e r lt l = eqb-false (parity (X r).first) i
    (and_false (leb place_open (X r).place) (eqb (parity (X r).first) i) (count_zero (λ r. added_to i (X r)) n r (sym (counted i i2) ∙ e) lt) (le-leb 4 (X r).place l))

-- One reader changes: the counts follow.
module _ (n : ℕ) (ind : ℕ → ℕ) (X : ℕ → Reader) (counted : Counted n ind X) (r : ℕ) (rn : r < n) (x : Reader) where
  changed : (i : ℕ) → count_below (λ j. added_to i (upd X r x j)) n + choose (added_to i (X r)) 1 0 ≡ count_below (λ j. added_to i (X j)) n + choose (added_to i x) 1 0
  changed i = rw (same r) at (count_upd (λ j. added_to i (X j)) (λ j. added_to i (upd X r x j)) n r rn (λ j e. rw e refl))

  -- It is out before and after, or inside before and after with the same version.
  pub stays_counted : ((i : ℕ) → added_to i x ≡ added_to i (X r)) → Counted n ind (upd X r x)
  stays_counted e i i2 = let moved-so = changed i in let same-so = e i in let was = counted i i2 in counted i i2 ∙ omega (arith, rw same-so at moved-so)

  -- It arrives, or it leaves.
  pub arrives_counted : (ind' : ℕ → ℕ) → (X r).place ≤ place_loaded_again → place_open ≤ x.place → ((i : ℕ) → i < 2 → ind' i ≡ choose (eqb (parity x.first) i) (ind i + 1) (ind i)) → Counted n ind' (upd X r x)
  arrives_counted ind' out inside e i i2 = e i i2 ∙ go (eqb (parity x.first) i) refl
    where
      go : (test : Bool) → eqb (parity x.first) i ≡ test → choose test (ind i + 1) (ind i) ≡ count_below (λ j. added_to i (upd X r x j)) n
      go true d = let moved-so = rw (lt-leb 4 (X r).place (omega arith), le-leb 4 x.place inside, d) at (changed i) in omega (arith, counted i i2)
      go false d = let moved-so = rw (lt-leb 4 (X r).place (omega arith), le-leb 4 x.place inside, d) at (changed i) in omega (arith, counted i i2)

  pub leaves_counted : (ind' : ℕ → ℕ) → place_open ≤ (X r).place → x.place ≤ place_loaded_again → ((i : ℕ) → i < 2 → ind' i ≡ choose (eqb (parity (X r).first) i) (ind i - 1) (ind i)) → Counted n ind' (upd X r x)
  leaves_counted ind' inside out e i i2 = e i i2 ∙ go (eqb (parity (X r).first) i) refl
    where
      go : (test : Bool) → eqb (parity (X r).first) i ≡ test → choose test (ind i - 1) (ind i) ≡ count_below (λ j. added_to i (upd X r x j)) n
      go true d = let moved-so = rw (le-leb 4 (X r).place inside, lt-leb 4 x.place (omega arith), d) at (changed i) in omega (arith, counted i i2)
      go false d = let moved-so = rw (le-leb 4 (X r).place inside, lt-leb 4 x.place (omega arith), d) at (changed i) in omega (arith, counted i i2)

-- What one look gives.
pub record LookFacts (count : ℕ) (y : Publisher) (b : ℕ) (result : WalkResult) : Type 0 where
  pub mark_same : result.walk.mark ≡ y.walk.mark
  pub next_same : result.walk.next ≡ y.walk.next
  -- each look passed or waited
  pub counted : result.walk.looks + passed_at y.place + y.walk.waits ≡ y.walk.looks + passed_at (place_after y.place result.reply) + result.walk.waits
  pub waits_are : result.walk.waits ≡ waits_after y.walk.waits result.reply
  pub quiet_zero : y.place ≡ place_synchronising → place_after y.place result.reply ≢ place_synchronising → count ≡ 0
  pub returned_zero : y.place ≡ place_raised → place_after y.place result.reply ≢ place_raised → count ≡ 0
  -- quiet is said at 35 only; waiting names the indicator looked at, which is not zero; spent exactly if b = 0
  pub quiets : result.reply ≡ Quiet → y.place ≡ place_synchronising
  pub waiting_is : (who : ℕ) → result.reply ≡ Waiting who → (who ≡ looked_at y) × (count ≢ 0)
  pub spent_only : result.reply ≡ Spent → b ≡ 0
  pub spent_if : b ≡ 0 → result.reply ≡ Spent
  pub returns : (looks waits : ℕ) → result.reply ≡ Returned looks waits → (y.place ≢ place_synchronising) × (looks ≡ result.walk.looks) × (waits ≡ result.walk.waits)
  pub high : place_after y.place result.reply ≤ place_returned

-- A look keeps the mark.
pub look_mark : (count : ℕ) (y : Publisher) (b : ℕ) → (look_at count y b).walk.mark ≡ y.walk.mark
unfolding look_at
look_mark count y b = choose_split (λ (result : WalkResult). result.walk.mark ≡ y.walk.mark) (eqb b 0) (λ _. refl)
    (λ _. choose_split (λ (result : WalkResult). result.walk.mark ≡ y.walk.mark) (eqb count 0) (λ _. refl) (λ _. refl))

pub walk_places : (place : ℕ) → (eqb place place_synchronising || eqb place place_raised) ≡ true → (place ≡ place_synchronising) ⊎ (place ≡ place_raised)
walk_places place e = go (eqb place 35) refl
  where
    go : (test : Bool) → eqb place place_synchronising ≡ test → (place ≡ place_synchronising) ⊎ (place ≡ place_raised)
    go true d = inl (eqb-true place 35 d)
    go false d = inr (eqb-true place 37 (rw d at e))

pub turn_low : (place : ℕ) → (place ≡ place_synchronising) ⊎ (place ≡ place_raised) → place_synchronising ≤ place
turn_low place (inl e) = omega arith
turn_low place (inr e) = omega arith

pub turn_high : (place : ℕ) → (place ≡ place_synchronising) ⊎ (place ≡ place_raised) → place ≤ place_raised
turn_high place (inl e) = omega arith
turn_high place (inr e) = omega arith

-- A look that passes is quiet at 35 and a return at 37; one that waits and none at all leave the place.
module _ (count : ℕ) (y : Publisher) (b : ℕ) where
  passing : count ≡ 0 → b ≢ 0 → (y.place ≡ place_synchronising) ⊎ (y.place ≡ place_raised)
      → LookFacts count y b (look_result y (y.walk.looks + 1) y.walk.waits (choose (eqb y.place place_synchronising) Quiet (Returned (y.walk.looks + 1) y.walk.waits)))
  passing empty some-look (inl e) = rw (eq-eqb y.place 35 e) (record { mark_same = refl; next_same = refl; counted = rw (eq-eqb y.place 35 e) (omega arith); waits_are = refl; quiet_zero = λ _ _. empty; returned_zero = λ e'. absurd (omega arith); quiets = λ _. e; waiting_is = λ who e'. absurd (let d : ◌≡◌ {A = ℕ} 0 1 = cc in omega arith); spent_only = λ e'. absurd (let d : ◌≡◌ {A = ℕ} 0 1 = cc in omega arith); spent_if = λ e'. absurd (some-look e'); returns = λ looks waits e'. absurd (let d : ◌≡◌ {A = ℕ} 0 1 = cc in omega arith); high = omega arith })
  passing empty some-look (inr e) = rw (ne_eqb y.place 35 (λ e'. omega arith)) (record { mark_same = refl; next_same = refl; counted = rw e (omega arith); waits_are = refl; quiet_zero = λ e'. absurd (omega arith); returned_zero = λ _ _. empty; quiets = λ e'. absurd (let d : ◌≡◌ {A = ℕ} 0 1 = cc in omega arith); waiting_is = λ who e'. absurd (let d : ◌≡◌ {A = ℕ} 0 1 = cc in omega arith); spent_only = λ e'. absurd (let d : ◌≡◌ {A = ℕ} 0 1 = cc in omega arith); spent_if = λ e'. absurd (some-look e'); returns = λ looks waits e'. (λ f. omega arith, (let is : y.walk.looks + 1 ≡ looks = cc in sym is), (let d : y.walk.waits ≡ waits = cc in sym d)); high = omega arith })

  pub look_facts : (y.place ≡ place_synchronising) ⊎ (y.place ≡ place_raised) → LookFacts count y b (look_at count y b)
  unfolding look_at
  look_facts turn = choose_split (LookFacts count y b) (eqb b 0)
      (λ looked. record { mark_same = refl; next_same = refl; counted = refl; waits_are = refl; quiet_zero = λ e n. absurd (n e); returned_zero = λ e n. absurd (n e); quiets = λ e'. absurd (let d : ◌≡◌ {A = ℕ} 0 1 = cc in omega arith); waiting_is = λ who e'. absurd (let d : ◌≡◌ {A = ℕ} 0 1 = cc in omega arith); spent_only = λ _. eqb-true b 0 looked; spent_if = λ _. refl; returns = λ looks waits e'. absurd (let d : ◌≡◌ {A = ℕ} 0 1 = cc in omega arith); high = omega (arith, turn_high y.place turn) })
      (λ looked. choose_split (LookFacts count y b) (eqb count 0) (λ empty. passing (eqb-true count 0 empty) (eqb-false b 0 looked) turn)
      (λ empty. record { mark_same = refl; next_same = refl; counted = omega arith; waits_are = refl; quiet_zero = λ e n. absurd (n e); returned_zero = λ e n. absurd (n e); quiets = λ e'. absurd (let d : ◌≡◌ {A = ℕ} 0 1 = cc in omega arith); waiting_is = λ who e'. ((let is : looked_at y ≡ who = cc in sym is), eqb-false count 0 empty); spent_only = λ e'. absurd (let d : ◌≡◌ {A = ℕ} 0 1 = cc in omega arith); spent_if = λ e'. absurd (eqb-false b 0 looked e'); returns = λ looks waits e'. absurd (let d : ◌≡◌ {A = ℕ} 0 1 = cc in omega arith); high = omega (arith, turn_high y.place turn) }))
