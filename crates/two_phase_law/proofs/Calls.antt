-- What the code of the old store asks of an undamaged store, and what its accepted calls give. Assumes nothing.
use Rattle.std.specs.Prelude.{ℕ, zero, suc, ◌+◌, ◌-◌, ◌%◌, ◌<◌, ◌≤◌, ◌≡◌, ◌≢◌, ◌⊎◌, Bool, true, false, ◌||◌, List, [], ◌∷◌, get_or, set, eqb}
use Rattle.std.proofs.Common.{arith, add-one, sym, ap, ◌∙◌, inl, inr, ⊎_elim}
use Rattle.std.proofs.Math.Nat.{add-zero}
use Rattle.std.proofs.Math.Path.{refl}
use borrow.Author.Tests.{eqb-true, eq-eqb, ne_eqb, lt-leb, le-leb, lt-ltb, not-false}
use Rattle.base.specs.Base.{choose}
use Rattle.base.specs.Rows.{any_true, count_below}
use Rattle.base.specs.RowLaws.{clash, choose_split, or_false, or_either, count_zero}
use Rattle.calls.specs.declared.Call.TheVariants.{Enter, Leave}
use Rattle.calls.specs.declared.Reply.TheVariants.{At, Left}
use Rattle.calls.specs.declared.WalkReply.TheVariants.{Waiting, Spent, Quiet, Returned}
use Rattle.calls.specs.Numbers.{readers_max, number_modulus, number_max, place_out, place_loaded, place_published, place_open, place_picked, place_synchronising, place_raised}
use Rattle.layout.specs.declared.Reader.{Reader}
use Rattle.layout.specs.declared.Publisher.{Publisher}
use Rattle.layout.specs.declared.WalkRecord.{WalkRecord}
use Rattle.layout.specs.Layout.{readers, current, version, indicator, reader_at, with_reader, with_indicator}
use Rattle.layout.specs.Records.{◌place≔◌, ◌first≔◌, ◌picked≔◌}
use Rattle.statement.specs.Machine.{State, state, outcome}
use Rattle.publication_law.specs.Steps.{reader}
use Rattle.publication_law.specs.Looks.{with_look}
use Rattle.publication_law.specs.Damage.{head_rows, first_readers_damaged, first_publishers_damaged}
use Rattle.publication_law.specs.DamageLaws.{Undamaged}
use Rattle.publication_law.specs.Table.{damaged, step}
use Rattle.publication_law.proofs.Calls.{undamaged_facts, undamaged_further, damaged_further, readers_damage, publishers_decide, enter_accepted, leave_accepted}
use Rattle.two_phase_law.specs.Steps.{versions, damage_rules, reader_rows, added_to, miscounted, onward, entered, leaving, looked_at, look_at, fixed, rules}
use Rattle.two_phase_law.specs.KindInvariant.{Counted}
use Rattle.two_phase_law.proofs.Safety.{picked_rows}
use Rattle.two_phase_law.specs.Calls.{added_counts, InSection}

count_more : (f : ℕ → Bool) (i : ℕ) → count_below f (i + 1) ≡ choose (f i) (count_below f i + 1) (count_below f i)
unfolding count_below
count_more f i = rw (add-one i, add-one (count_below f i)) refl

count_most : (f : ℕ → Bool) (n : ℕ) → count_below f n ≤ n
unfolding count_below
count_most f zero = omega arith
count_most f (suc n) = go (f n) (count_most f n)
  where
    go : (test : Bool) → count_below f n ≤ n → choose test (suc (count_below f n)) (count_below f n) ≤ suc n
    go true l = omega arith
    go false l = omega arith

module _ (w : List ℕ) where
  pub counts_none : 0 ∷ 0 ∷ [] ≡ added_counts w 0
  unfolding count_below
  counts_none = refl

  -- A reader below 4 is not counted.
  pub counts_out : (r : ℕ) → (reader_at w r).place < place_open → added_counts w r ≡ added_counts w (r + 1)
  counts_out r l = rw (count_more (λ r'. added_to 0 (reader_at w r')) r, count_more (λ r'. added_to 1 (reader_at w r')) r, lt-leb 4 (reader_at w r).place l) refl

  -- One at 4 or 5 is, by the parity of its loaded version.
  pub counts_in : (r i : ℕ) → place_open ≤ (reader_at w r).place → i ≡ (reader_at w r).first % 2 → set (added_counts w r) i (get_or (added_counts w r) i 0 + 1) ≡ added_counts w (r + 1)
  counts_in r i l e = rw (count_more (λ r'. added_to 0 (reader_at w r')) r, count_more (λ r'. added_to 1 (reader_at w r')) r, le-leb 4 (reader_at w r).place l, ← e) (go i (omega arith))
    where
      go : (j : ℕ) → j < 2 → set (added_counts w r) j (get_or (added_counts w r) j 0 + 1)
          ≡ choose (eqb j 0) (count_below (λ r'. added_to 0 (reader_at w r')) r + 1) (count_below (λ r'. added_to 0 (reader_at w r')) r)
          ∷ choose (eqb j 1) (count_below (λ r'. added_to 1 (reader_at w r')) r + 1) (count_below (λ r'. added_to 1 (reader_at w r')) r) ∷ []
      go zero l = refl
      go (suc zero) l = refl
      go (suc (suc j)) l = absurd (omega arith)

  pub counts_most : (n i : ℕ) → get_or (added_counts w n) i 0 ≤ n
  counts_most n zero = count_most (λ r'. added_to 0 (reader_at w r')) n
  counts_most n (suc zero) = count_most (λ r'. added_to 1 (reader_at w r')) n
  counts_most n (suc (suc i)) = omega arith

pub no_damage : (s : State) → damaged rules s ≡ false → Undamaged damage_rules s
no_damage = undamaged_facts rules

-- The code tests the readers and the indicators in one pass.
module _ (s : State) (head_ok : any_true (head_rows damage_rules s) ≡ false) where
  pub pass_damages : first_readers_damaged damage_rules s || rules.further s ≡ true → damaged rules s ≡ true
  pass_damages e = ⊎_elim (readers_damage rules s head_ok) (damaged_further rules s) (or_either (first_readers_damaged damage_rules s) (rules.further s) e)

  pub pass_clears : first_readers_damaged damage_rules s || rules.further s ≡ false → damaged rules s ≡ first_publishers_damaged damage_rules s
  pass_clears e = let parts = or_false (first_readers_damaged damage_rules s) (rules.further s) e in publishers_decide rules s head_ok parts.0 parts.1

-- The indicators are right, since the damage test counts the readers.
pub counted_of : (s : State) → damaged rules s ≡ false → Counted (readers s.words) (indicator s.words) (reader_at s.words)
counted_of s e i l = let parts = or_false (miscounted s 0) (miscounted s 1) (undamaged_further rules s e) in go i l parts.0 parts.1
  where
    go : (i : ℕ) → i < 2 → miscounted s 0 ≡ false → miscounted s 1 ≡ false → indicator s.words i ≡ count_below (λ r. added_to i (reader s r)) (readers s.words)
    go zero l zero_right one_right = eqb-true _ _ (not-false _ zero_right)
    go (suc zero) l zero_right one_right = eqb-true _ _ (not-false _ one_right)
    go (suc (suc i)) l zero_right one_right = absurd (omega arith)

-- So an indicator is at most the number of readers, and that of a reader at 4 or 5 is not 0.
pub indicator_low : (s : State) → damaged rules s ≡ false → (i : ℕ) → i < 2 → indicator s.words i ≤ readers_max
indicator_low s e i l = omega (arith, counted_of s e i l, count_most (λ r. added_to i (reader s r)) (readers s.words), (no_damage s e).head.readers_high)

pub indicator_some : (s : State) → damaged rules s ≡ false → (r : ℕ) → r < readers s.words → place_open ≤ (reader s r).place → 1 ≤ indicator s.words ((reader s r).first % 2)
indicator_some s e r named turn = go (indicator s.words ((reader s r).first % 2)) refl
  where
    here : added_to ((reader s r).first % 2) (reader s r) ≡ true
    here = rw (le-leb 4 (reader s r).place turn) (eq-eqb ((reader s r).first % 2) ((reader s r).first % 2) refl)

    go : (n : ℕ) → indicator s.words ((reader s r).first % 2) ≡ n → 1 ≤ n
    go zero d = clash (sym here ∙ count_zero (λ r'. added_to ((reader s r).first % 2) (reader s r')) (readers s.words) r (sym (counted_of s e ((reader s r).first % 2) (omega arith)) ∙ d) named)
    go (suc n) d = omega arith

module _ (ss : ℕ) (x : Reader) where
  pub picked_right : x.place ≡ place_picked → x.picked < ss → InSection ss x
  picked_right e l = record { fits = picked_rows ss x e ∙ lt-leb ss x.picked l; arrived = omega arith }

  pub picked_wrong : x.place ≡ place_picked → ss ≤ x.picked → any_true (reader_rows ss x) ≡ true
  picked_wrong e l = picked_rows ss x e ∙ le-leb ss x.picked l

  pub not_picked : x.place ≡ place_open → InSection ss x
  not_picked e = record { fits = rw e refl; arrived = omega arith }

  pub outside_fits : x.place < place_published → any_true (reader_rows ss x) ≡ false
  outside_fits l = go x.place refl l
    where
      go : (pl : ℕ) → x.place ≡ pl → pl < 2 → any_true (reader_rows ss x) ≡ false
      go zero e below = rw e refl
      go (suc zero) e below = rw e refl
      go (suc (suc pl)) e below = absurd (omega arith)

  -- 2 and 3 are the new store's.
  pub no_reader_place : x.place ≢ place_picked → place_published ≤ x.place → x.place ≢ place_open → any_true (reader_rows ss x) ≡ true
  no_reader_place five low four = go x.place refl low
    where
      go : (pl : ℕ) → x.place ≡ pl → 2 ≤ pl → any_true (reader_rows ss x) ≡ true
      go zero e below = absurd (omega arith)
      go (suc zero) e below = absurd (omega arith)
      go (suc (suc zero)) e below = rw e refl
      go (suc (suc (suc zero))) e below = rw e refl
      go (suc (suc (suc (suc zero)))) e below = absurd (four e)
      go (suc (suc (suc (suc (suc zero))))) e below = absurd (five e)
      go (suc (suc (suc (suc (suc (suc pl)))))) e below = rw (lt-ltb 5 x.place (omega arith)) refl

-- A reader one place on, by its place.
module _ (ver cur : ℕ) (x : Reader) where
  pub onward_loads : x.place ≡ place_out → (x place≔ place_loaded first≔ ver) ≡ onward ver cur x
  unfolding onward
  onward_loads e = rw e refl

  pub onward_arrives : x.place ≡ place_loaded → (x place≔ place_open) ≡ onward ver cur x
  unfolding onward
  onward_arrives e = rw e refl

  pub onward_picks : x.place ≢ place_out → x.place ≢ place_loaded → (x place≔ place_picked picked≔ cur) ≡ onward ver cur x
  unfolding onward
  onward_picks not-0 not-1 = rw (ne_eqb x.place 0 not-0, ne_eqb x.place 1 not-1) refl

module _ (s : State) (no_damage : damaged rules s ≡ false) where
  -- ENTER to 4 counts the reader, and to 1 and 5 leaves the indicators.
  pub arrive_is : (w' : List ℕ) (r i count : ℕ) (x x' : Reader) → r < readers s.words → x ≡ reader s r → x.place ≡ place_loaded → x' ≡ onward (version s.words) (current s.words) x
      → i ≡ x.first % 2 → count ≡ indicator s.words i → w' ≡ with_indicator (with_reader s.words r x') i (count + 1)
      → outcome (At x'.place) (state w' s.entries) ≡ step rules s (Enter r)
  arrive_is w' r i count x x' named is turn moved index counted put =
      let at1 : (reader s r).place ≡ place_loaded = rw is at turn in
      rw (put, counted, index, moved, is) (words at1 ∙ enter_accepted fixed s no_damage r x named is (omega (arith, turn)))
    where
      words : (reader s r).place ≡ place_loaded
          → outcome (At (entered s r).place) (state (with_indicator (with_reader s.words r (entered s r)) ((reader s r).first % 2) (indicator s.words ((reader s r).first % 2) + 1)) s.entries) ≡ rules.act s (Enter r)
      words at1 = ap (λ (test : Bool). outcome (At (entered s r).place) (state (choose test (with_indicator (with_reader s.words r (entered s r)) ((reader s r).first % 2) (indicator s.words ((reader s r).first % 2) + 1)) (with_reader s.words r (entered s r))) s.entries)) (sym (eq-eqb (reader s r).place 1 at1))

  pub enter_is : (w' : List ℕ) (r : ℕ) (x x' : Reader) → r < readers s.words → x ≡ reader s r → x.place < place_picked → x.place ≢ place_loaded → x' ≡ onward (version s.words) (current s.words) x → w' ≡ with_reader s.words r x'
      → outcome (At x'.place) (state w' s.entries) ≡ step rules s (Enter r)
  enter_is w' r x x' named is turn ne moved put =
      rw (put, moved, is) (words (rw is at ne) ∙ enter_accepted fixed s no_damage r x named is turn)
    where
      words : (reader s r).place ≢ place_loaded → outcome (At (entered s r).place) (state (with_reader s.words r (entered s r)) s.entries) ≡ rules.act s (Enter r)
      words at1 = ap (λ (test : Bool). outcome (At (entered s r).place) (state (choose test (with_indicator (with_reader s.words r (entered s r)) ((reader s r).first % 2) (indicator s.words ((reader s r).first % 2) + 1)) (with_reader s.words r (entered s r))) s.entries)) (sym (ne_eqb (reader s r).place 1 at1))

  pub leave_is : (w' : List ℕ) (r i count : ℕ) (x : Reader) → r < readers s.words → x ≡ reader s r → place_open ≤ x.place → i ≡ x.first % 2 → count ≡ indicator s.words i
      → w' ≡ with_indicator (with_reader s.words r (leaving x)) i (count - 1) → outcome Left (state w' s.entries) ≡ step rules s (Leave r)
  leave_is w' r i count x named is turn index counted put =
      rw (put, counted, index, is) (leave_accepted fixed s no_damage r x named is turn)

-- The number to which one is added modulo 2^64 is one before the sum.
pub before_is : (before mark : ℕ) → before ≤ number_max → (before + 1) % number_modulus ≡ mark → before ≡ versions.before_mark mark
before_is before mark low e = omega arith

-- WALK's two places.
pub walks_at_lem : (pl : ℕ) → (pl ≡ place_synchronising) ⊎ (pl ≡ place_raised) → (eqb pl place_synchronising || eqb pl place_raised) ≡ true
walks_at_lem pl (inl e) = rw e refl
walks_at_lem pl (inr e) = rw e refl

pub walks_not : (pl : ℕ) → ((pl ≡ place_synchronising) ⊎ (pl ≡ place_raised) → ⊥) → (eqb pl place_synchronising || eqb pl place_raised) ≡ false
walks_not pl f = rw (ne_eqb pl 35 (λ e. f (inl e)), ne_eqb pl 37 (λ e. f (inr e))) refl

-- There are two indicators.
pub watched_low : (y : Publisher) → looked_at y < 2
watched_low y = choose_split (λ (i : ℕ). i < 2) (eqb y.place place_synchronising) (λ _. omega arith) (λ _. omega arith)

-- What a look gives; one that is made leaves the walk moved.
module _ (count : ℕ) (y : Publisher) (b : ℕ) where
  pub look_spent : b ≡ 0 → record { walk = y.walk; reply = Spent } ≡ look_at count y b
  unfolding look_at
  look_spent e = rw e refl

  pub look_waits : (moved : WalkRecord) → moved ≡ with_look y.walk 0 1 → b ≢ 0 → count ≢ 0 → record { walk = moved; reply = Waiting (looked_at y) } ≡ look_at count y b
  unfolding look_at
  look_waits moved is e f = rw (is, add-zero y.walk.next, ne_eqb b 0 e, ne_eqb count 0 f) refl

  pub look_quiet : (moved : WalkRecord) → moved ≡ with_look y.walk 0 0 → b ≢ 0 → count ≡ 0 → y.place ≡ place_synchronising → record { walk = moved; reply = Quiet } ≡ look_at count y b
  unfolding look_at
  look_quiet moved is e f turn = rw (is, add-zero y.walk.next, add-zero y.walk.waits, ne_eqb b 0 e, eq-eqb count 0 f, eq-eqb y.place 35 turn) refl

  pub look_returned : (moved : WalkRecord) → moved ≡ with_look y.walk 0 0 → b ≢ 0 → count ≡ 0 → y.place ≢ place_synchronising → record { walk = moved; reply = Returned moved.looks moved.waits } ≡ look_at count y b
  unfolding look_at
  look_returned moved is e f turn = rw (is, add-zero y.walk.next, add-zero y.walk.waits, ne_eqb b 0 e, eq-eqb count 0 f, ne_eqb y.place 35 turn) refl
