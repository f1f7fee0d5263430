-- What the code that the kinds share asks of a store's words, and that every undamaged store has it. Assumes nothing.
use Rattle.std.specs.Prelude.{ℕ, ◌*◌, ◌<◌, ◌≤◌, ◌≡◌, false, length}
use Rattle.std.proofs.Common.{sym, ap, ◌∙◌, ltb-false}
use Rattle.calls.specs.Numbers.{table_length, place_synchronising}
use Rattle.layout.specs.Layout.{readers, publishers, slots, version}
use Rattle.statement.specs.Machine.{State}
use Rattle.publication_law.specs.Steps.{Versions, up_to, reader, publisher}
use Rattle.publication_law.specs.Damage.{DamageRules}
use Rattle.publication_law.specs.DamageLaws.{Undamaged, UndamagedPublisher}
use Rattle.publication_law.specs.KindLaw.{KindLaw, undamaged_publisher}
use Rattle.publication_law.specs.Table.{Table, damaged}
use Rattle.publication_law.proofs.Calls.{undamaged_facts}
use Rattle.publication_law.specs.InBounds.{InBounds, Synchronising}

pub in_bounds : (K : DamageRules) → KindLaw K → (s : State) → Undamaged K s → InBounds s.words
in_bounds K law s f = record {
  long = f.head.long;
  readers_high = f.head.readers_high;
  publishers_high = f.head.publishers_high;
  slots_high = f.head.slots_high;
  picked_below = λ r l e. law.reader_picked (readers s.words) (slots s.words) (reader s r) e (f.readers_undamaged r l);
  held_below = λ p l e. (undamaged_publisher law (readers s.words) (slots s.words) (publisher s p) (f.publishers_undamaged p l)).held_below e;
}

module _ (T : Table) (law : KindLaw T.damage) (s : State) (no_damage : damaged T s ≡ false) where
  pub in_bounds_of : InBounds s.words
  in_bounds_of = in_bounds T.damage law s (undamaged_facts T s no_damage)

  pub entries_of : length s.entries ≡ slots s.words * table_length
  entries_of = (undamaged_facts T s no_damage).head.entries_are

  pub version_low : (last : ℕ) → T.damage.versions ≡ up_to last → version s.words ≤ last
  version_low last up = ltb-false last (version s.words) (sym (ap (λ (vs : Versions). vs.too_large (version s.words)) up) ∙ (undamaged_facts T s no_damage).head.version_fits)

  module _ (p : ℕ) (named : p < publishers s.words) (late : place_synchronising ≤ (publisher s p).place) where
    late_undamaged : UndamagedPublisher T.damage.versions (slots s.words) (publisher s p)
    late_undamaged = undamaged_publisher law (readers s.words) (slots s.words) (publisher s p) ((undamaged_facts T s no_damage).publishers_undamaged p named)

    pub mark_fits_of : T.damage.versions.wrong_mark (publisher s p).walk.mark ≡ false
    mark_fits_of = late_undamaged.mark_fits late

    pub synchronising_of : Synchronising (publisher s p)
    synchronising_of = record { waits_low = late_undamaged.waits_low late }
