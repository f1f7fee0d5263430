-- What the shared steps and the shared code need of a kind, and from it what damages a publisher, by its place. Assumes nothing.
use Rattle.std.specs.Prelude.{ℕ, ◌<◌, ◌≤◌, ◌≡◌, refl, ◌≢◌, Bool, true, false, not, ◌&&◌, ◌||◌, leb, ltb, eqb}
use Rattle.std.proofs.Common.{arith, sym, ◌∙◌, ne_eqb, le-leb, ltb-true, ltb-false, lt-ltb, le-ltb}
use Rattle.std.proofs.lemmas.Bool.{eqb-false}
use Rattle.base.specs.Rows.{any_true}
use Rattle.base.specs.RowLaws.{or_false, or_left, or_right, or_none, neither}
use Rattle.calls.specs.Numbers.{place_picked, place_idle, place_claimed, place_swapped, place_synchronising, place_returned}
use Rattle.layout.specs.declared.Reader.{Reader}
use Rattle.layout.specs.declared.Publisher.{Publisher}
use Rattle.publication_law.specs.Steps.{Versions, up_to}
use Rattle.publication_law.specs.Damage.{DamageRules, publisher_rows}
use Rattle.publication_law.specs.DamageLaws.{UndamagedPublisher, publisher_of_lem, publisher_to_lem}

-- Of its versions: one before a mark is the version that it was made at, if that fits, and a mark that fits is the one made there; a SYNC that is not refused gives a mark that fits,
-- and such a mark is a version that fits.
pub record VersionsLaw (vs : Versions) : Type 0 where
  pub before_mark_lem : (ver : ℕ) → vs.too_large ver ≡ false → vs.before_mark (vs.mark_at ver) ≡ ver
  pub mark_after : (mark : ℕ) → vs.wrong_mark mark ≡ false → vs.mark_at (vs.before_mark mark) ≡ mark
  pub mark_fits : (ver : ℕ) → vs.too_large ver ≡ false → vs.is_last ver ≡ false → vs.wrong_mark (vs.mark_at ver) ≡ false
  pub raised_fits : (mark : ℕ) → vs.wrong_mark mark ≡ false → vs.too_large mark ≡ false

pub up_to_law : (last : ℕ) → VersionsLaw (up_to last)
up_to_law last = record {
  before_mark_lem = λ ver fits. omega arith;
  mark_after = λ mark e. let ne = eqb-false mark 0 (or_false (eqb mark 0) (ltb last mark) e).0 in omega arith;
  mark_fits = λ ver fits not_last. let l = ltb-false last ver fits in let ne = eqb-false ver last not_last in
      neither (eqb ((up_to last).mark_at ver) 0) (ltb last ((up_to last).mark_at ver)) (ne_eqb ((up_to last).mark_at ver) 0 (λ eq. omega arith)) (le-ltb last ((up_to last).mark_at ver) (omega arith));
  raised_fits = λ mark e. (or_false (eqb mark 0) (ltb last mark) e).1;
}

-- A mark up to a last version is not 0.
pub up_to_mark_low : (last mark : ℕ) → (up_to last).wrong_mark mark ≡ false → 1 ≤ mark
up_to_mark_low last mark e = let ne = eqb-false mark 0 (or_false (eqb mark 0) (ltb last mark) e).0 in omega arith

-- Of its damage test: an undamaged reader at 5 has picked a slot of the store; a publisher is damaged by the shared rows and by what the kind adds,
-- which is nothing below 35 and every place above 38.
pub record KindLaw (K : DamageRules) : Type 0 where
  pub versions_law : VersionsLaw K.versions
  pub reader_picked : (rs ss : ℕ) (x : Reader) → x.place ≡ place_picked → K.reader_damaged rs ss x ≡ false → x.picked < ss
  pub extra_damage : ℕ → Publisher → Bool
  pub extra_rows_lem : (rs ss : ℕ) (y : Publisher) → K.publisher_damaged rs ss y ≡ (extra_damage rs y || any_true (publisher_rows K.versions ss y))
  pub extra_early : (rs : ℕ) (y : Publisher) → y.place < place_synchronising → extra_damage rs y ≡ false
  pub extra_beyond : (rs : ℕ) (y : Publisher) → extra_damage rs y ≡ false → y.place ≤ place_returned

module _ {K : DamageRules} (law : KindLaw K) (rs ss : ℕ) (y : Publisher) where
  -- An undamaged publisher ..
  pub place_bounded : K.publisher_damaged rs ss y ≡ false → y.place ≤ place_returned
  place_bounded e = law.extra_beyond rs y (or_false (law.extra_damage rs y) (any_true (publisher_rows K.versions ss y)) (sym (law.extra_rows_lem rs ss y) ∙ e)).0

  pub undamaged_publisher : K.publisher_damaged rs ss y ≡ false → UndamagedPublisher K.versions ss y
  undamaged_publisher e = publisher_of_lem K.versions ss y (or_false (law.extra_damage rs y) (any_true (publisher_rows K.versions ss y)) (sym (law.extra_rows_lem rs ss y) ∙ e)).1

  pub publisher_undamaged : law.extra_damage rs y ≡ false → UndamagedPublisher K.versions ss y → K.publisher_damaged rs ss y ≡ false
  publisher_undamaged clear f = law.extra_rows_lem rs ss y ∙ neither (law.extra_damage rs y) (any_true (publisher_rows K.versions ss y)) clear (publisher_to_lem K.versions ss y f)

  -- .. below 35, where only the held slot is tested ..
  pub early_fits : y.place ≤ place_swapped → (place_claimed ≤ y.place → y.held < ss) → K.publisher_damaged rs ss y ≡ false
  early_fits high held = publisher_undamaged (law.extra_early rs y (omega arith)) (record { held_below = held; mark_fits = λ l. absurd (omega arith); waits_low = λ l. absurd (omega arith) })

  pub publisher_idle : y.place ≡ place_idle → K.publisher_damaged rs ss y ≡ false
  publisher_idle e = early_fits (omega arith) (λ l. absurd (omega arith))

  pub publisher_early : y.held < ss → y.place < place_synchronising → K.publisher_damaged rs ss y ≡ false
  publisher_early held e = early_fits (omega arith) (λ _. held)

  -- .. and damaged by what the kind adds, by its held slot, by its mark, by its waits.
  pub extra_damages : law.extra_damage rs y ≡ true → K.publisher_damaged rs ss y ≡ true
  extra_damages e = law.extra_rows_lem rs ss y ∙ or_left (law.extra_damage rs y) (any_true (publisher_rows K.versions ss y)) e

  row_damages : any_true (publisher_rows K.versions ss y) ≡ true → K.publisher_damaged rs ss y ≡ true
  row_damages e = law.extra_rows_lem rs ss y ∙ or_right (law.extra_damage rs y) (any_true (publisher_rows K.versions ss y)) e

  pub held_large : y.place ≢ place_idle → ss ≤ y.held → K.publisher_damaged rs ss y ≡ true
  held_large ne l = row_damages (rw (ne_eqb y.place 0 ne, le-leb ss y.held l) refl)

  pub wrong_mark_lem : place_synchronising ≤ y.place → K.versions.wrong_mark y.walk.mark ≡ true → K.publisher_damaged rs ss y ≡ true
  wrong_mark_lem late e = row_damages (or_right (not (eqb y.place place_idle) && leb ss y.held) _ (rw (le-leb 35 y.place late, e) refl))

  pub more_waits : place_synchronising ≤ y.place → y.walk.looks < y.walk.waits → K.publisher_damaged rs ss y ≡ true
  more_waits late e = row_damages (or_right (not (eqb y.place place_idle) && leb ss y.held) _ (or_right (leb place_synchronising y.place && K.versions.wrong_mark y.walk.mark) _ (rw (le-leb 35 y.place late, lt-ltb _ _ e) refl)))

  -- With a held slot of the store and a mark that fits the rest decides: the waits where the kind adds nothing, what it adds where the waits are in order.
  module _ (held : y.held < ss) (late : place_synchronising ≤ y.place) (mark : K.versions.wrong_mark y.walk.mark ≡ false) where
    pub extra_decides : y.walk.waits ≤ y.walk.looks → K.publisher_damaged rs ss y ≡ law.extra_damage rs y
    extra_decides waits = law.extra_rows_lem rs ss y ∙ rw (publisher_to_lem K.versions ss y (record { held_below = λ _. held; mark_fits = λ _. mark; waits_low = λ _. waits })) (or_none (law.extra_damage rs y))

    pub waits_decide : law.extra_damage rs y ≡ false → K.publisher_damaged rs ss y ≡ ltb y.walk.looks y.walk.waits
    waits_decide clear = go (ltb y.walk.looks y.walk.waits) refl
      where
        go : (b : Bool) → ltb y.walk.looks y.walk.waits ≡ b → K.publisher_damaged rs ss y ≡ b
        go true e = more_waits late (ltb-true _ _ e)
        go false e = extra_decides (ltb-false _ _ e) ∙ clear
