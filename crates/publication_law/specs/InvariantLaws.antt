-- A reader or a publisher moves: from what holds of slots and phases then, the invariant of the new words. Assumes nothing.
use Rattle.std.specs.Prelude.{ℕ, ◌<◌, ◌≡◌, refl, Bool, true, false, ◌&&◌, ◌||◌, List, ℤ, get_or, length, eqb}
use Rattle.std.proofs.Common.{arith, ap, ◌∙◌, eqb-true}
use Rattle.std.proofs.Math.Path.{fun_ext}
use Rattle.base.specs.Base.{choose, upd}
use Rattle.base.specs.Rows.{any_below}
use Rattle.base.specs.RowLaws.{same, at_or}
use Rattle.layout.specs.declared.Reader.{Reader}
use Rattle.layout.specs.declared.Publisher.{Publisher}
use Rattle.layout.specs.declared.Retirement.{Retirement}
use Rattle.layout.specs.declared.Retired.{Retired}
use Rattle.layout.specs.Layout.{kind_at, readers_at, publishers_at, slots_at, current_at, version_at, readers, publishers, slots, current, version, slot_entry, publisher_at, retirement_at, retired_at}
use Rattle.statement.specs.Machine.{State, state, Given, retires, retired_slot}
use Rattle.statement.specs.KeptInvariant.{Ghost}
use Rattle.publication_law.specs.Steps.{reader, publisher}
use Rattle.publication_law.specs.Damage.{DamageRules}
use Rattle.publication_law.specs.DamageLaws.{UndamagedHead, Undamaged}
use Rattle.publication_law.specs.Core.{Core}
use Rattle.publication_law.specs.Phases.{Phases}
use Rattle.publication_law.specs.Moves.{MovesPublisher, publisher_field, MovesReader, reader_field}
use Rattle.publication_law.specs.Invariant.{formers, formers_of, Sized, Invariant}

-- Where retirements and retired slots stay, the former slots of a publisher with record y do.
pub retired_kept : (s : State) (w' : List ℕ) (es' : List ℤ) → retirement_at w' ≡ retirement_at s.words → retired_at w' ≡ retired_at s.words → ◌≡◌ {A = ℕ → ℕ → Bool} (retired_slot (state w' es')) (retired_slot s)
retired_kept s w' es' e d =
    ap {B = ℕ → ℕ → Bool} (λ (f : ℕ → Retirement) (p slot : ℕ). any_below (λ i. eqb (retired_at w' p i).slot slot) (f p).count) e
    ∙ ap {B = ℕ → ℕ → Bool} (λ (f : ℕ → ℕ → Retired) (p slot : ℕ). any_below (λ i. eqb (f p i).slot slot) (retirement_at s.words p).count) d

pub formers_kept : (retiring : Bool) (s : State) (w' : List ℕ) (es' : List ℤ) → retirement_at w' ≡ retirement_at s.words → retired_at w' ≡ retired_at s.words
    → ◌≡◌ {A = ℕ → Publisher → ℕ → Bool} (formers_of retiring (state w' es')) (formers_of retiring s)
formers_kept retiring s w' es' e d = ap {B = ℕ → Publisher → ℕ → Bool} (λ (f : ℕ → ℕ → Bool) (p : ℕ) (y : Publisher) (slot : ℕ). (retiring && f p slot) || formers y slot) (retired_kept s w' es' e d)

-- Words and entries of the same lengths, with the same numbers of the head below the current slot, and a current slot and a version that fit.
module _ (K : DamageRules) (s : State) (w' : List ℕ) (es' : List ℤ) (long : length w' ≡ length s.words) (head : (j : ℕ) → j < current_at → get_or w' j 0 ≡ get_or s.words j 0) where
  pub head_undamaged : length es' ≡ length s.entries → current w' < slots s.words → K.versions.too_large (version w') ≡ false → UndamagedHead K s → UndamagedHead K (state w' es')
  head_undamaged len low fits was = record {
    long = long ∙ was.long;
    kind_is = head kind_at (omega arith) ∙ was.kind_is;
    readers_low = rw (head readers_at (omega arith)) was.readers_low;
    readers_high = rw (head readers_at (omega arith)) was.readers_high;
    publishers_low = rw (head publishers_at (omega arith)) was.publishers_low;
    publishers_high = rw (head publishers_at (omega arith)) was.publishers_high;
    slots_low = rw (head slots_at (omega arith)) was.slots_low;
    slots_high = rw (head slots_at (omega arith)) was.slots_high;
    entries_are = rw (head slots_at (omega arith)) (len ∙ was.entries_are);
    current_below = rw (head slots_at (omega arith)) low;
    version_fits = fits;
  }

  pub sized : (z : Given) → Sized z s → Sized z (state w' es')
  sized z was = record { readers_are = head readers_at (omega arith) ∙ was.readers_are; publishers_are = head publishers_at (omega arith) ∙ was.publishers_are; slots_are = head slots_at (omega arith) ∙ was.slots_are }

-- A reader moves.
module _ (K : DamageRules) (z : Given) (g : Ghost) (s : State) (i : Invariant K z g s) (g' : Ghost) (w' : List ℕ) (r : ℕ) (x : Reader) (m : MovesReader s.words w' r x) where
  undamaged_reader : K.reader_damaged (readers s.words) (slots s.words) x ≡ false → Undamaged K (state w' s.entries)
  undamaged_reader ok = let f = i.no_damage in let was = f.head in record {
    head = head_undamaged K s w' s.entries m.long (λ j l. m.head j (omega arith)) refl (rw (m.head current_at (omega arith)) was.current_below) (rw (m.head version_at (omega arith)) was.version_fits) was;
    readers_undamaged = rw (m.head readers_at (omega arith), m.head slots_at (omega arith), m.readers_are) (at_or r (λ l. rw (same r) ok) (λ j e l. rw e (f.readers_undamaged j l)));
    publishers_undamaged = rw (m.head readers_at (omega arith), m.head publishers_at (omega arith), m.head slots_at (omega arith), m.publishers_stay) f.publishers_undamaged;
  }

  formers_stay : ◌≡◌ {A = ℕ → ℕ → Bool} (λ p. formers_of (retires K.number) (state w' s.entries) p (publisher_at w' p)) (λ p. formers_of (retires K.number) s p (publisher s p))
  formers_stay = ap {B = ℕ → ℕ → Bool} (λ (f : ℕ → Publisher → ℕ → Bool) (p : ℕ). f p (publisher_at w' p)) (formers_kept (retires K.number) s w' s.entries m.retirements_stay m.retired_stay)
      ∙ ap {B = ℕ → ℕ → Bool} (λ (f : ℕ → Publisher) (p : ℕ). formers_of (retires K.number) s p (f p)) m.publishers_stay

  pub reader_moved : K.reader_damaged (readers s.words) (slots s.words) x ≡ false
      → Core g'.model g'.told (readers s.words) (publishers s.words) (current s.words)
      (upd (λ j. (reader s j).place) r x.place) (upd (λ j. (reader s j).picked) r x.picked) (λ p. (publisher s p).place) (λ p. (publisher s p).held) (λ p. formers_of (retires K.number) s p (publisher s p)) (slot_entry s.entries)
      → Phases g'.tally.place g'.tally.phase (upd (λ j. (reader s j).place) r x.place) (λ p. (publisher s p).place)
      → Invariant K z g' (state w' s.entries)
  reader_moved ok core_is phases-is = record {
    no_damage = undamaged_reader ok;
    sized = sized K s w' s.entries m.long (λ j l. m.head j (omega arith)) z i.sized;
    core = rw (
      m.head readers_at (omega arith),
      m.head publishers_at (omega arith),
      m.head current_at (omega arith),
      formers_stay,
      m.publishers_stay,
      reader_field (λ (x' : Reader). x'.place) s.words w' r x m,
      reader_field (λ (x' : Reader). x'.picked) s.words w' r x m,
    ) core_is;
    phases = rw (m.publishers_stay, reader_field (λ (x' : Reader). x'.place) s.words w' r x m) phases-is;
  }

-- A publisher moves.
module _ (K : DamageRules) (z : Given) (g : Ghost) (s : State) (i : Invariant K z g s) (g' : Ghost) (w' : List ℕ) (es' : List ℤ) (p : ℕ) (y : Publisher) (cur ver rel : ℕ)
    (m : MovesPublisher s.words w' p y cur ver rel) (len : length es' ≡ length s.entries) where
  undamaged_publisher : cur < slots s.words → K.versions.too_large ver ≡ false → K.publisher_damaged (readers s.words) (slots s.words) y ≡ false → Undamaged K (state w' es')
  undamaged_publisher low fits ok = let f = i.no_damage in record {
    head = head_undamaged K s w' es' m.long m.head len (rw m.current_is low) (rw m.version_is fits) f.head;
    readers_undamaged = rw (m.head readers_at (omega arith), m.head slots_at (omega arith), m.readers_stay) f.readers_undamaged;
    publishers_undamaged = rw (m.head readers_at (omega arith), m.head publishers_at (omega arith), m.head slots_at (omega arith), m.publishers_are) (at_or p (λ l. rw (same p) ok) (λ q e l. rw e (f.publishers_undamaged q l)));
  }

  formers_moved : ◌≡◌ {A = ℕ → ℕ → Bool} (λ q. formers_of (retires K.number) (state w' es') q (publisher_at w' q)) (upd (λ q. formers_of (retires K.number) s q (publisher s q)) p (formers_of (retires K.number) s p y))
  formers_moved =
      ap {B = ℕ → ℕ → Bool} (λ (f : ℕ → Publisher → ℕ → Bool) (q : ℕ). f q (publisher_at w' q)) (formers_kept (retires K.number) s w' es' m.retirements_stay m.retired_stay)
      ∙ (ap {B = ℕ → ℕ → Bool} (λ (f : ℕ → Publisher) (q : ℕ). formers_of (retires K.number) s q (f q)) m.publishers_are ∙ fun_ext (λ q. go q (eqb q p) refl))
    where
      go : (q : ℕ) (b : Bool) → eqb q p ≡ b
          → formers_of (retires K.number) s q (choose b y (publisher_at s.words q)) ≡ choose b (formers_of (retires K.number) s p y) (formers_of (retires K.number) s q (publisher s q))
      go q true e = rw (eqb-true q p e) refl
      go q false e = refl

  pub publisher_moved : cur < slots s.words → K.versions.too_large ver ≡ false → K.publisher_damaged (readers s.words) (slots s.words) y ≡ false
      → Core g'.model g'.told (readers s.words) (publishers s.words) cur (λ j. (reader s j).place) (λ j. (reader s j).picked)
      (upd (λ q. (publisher s q).place) p y.place) (upd (λ q. (publisher s q).held) p y.held) (upd (λ q. formers_of (retires K.number) s q (publisher s q)) p (formers_of (retires K.number) s p y)) (slot_entry es')
      → Phases g'.tally.place g'.tally.phase (λ j. (reader s j).place) (upd (λ q. (publisher s q).place) p y.place)
      → Invariant K z g' (state w' es')
  publisher_moved low fits ok core_is phases-is = record {
    no_damage = undamaged_publisher low fits ok;
    sized = sized K s w' es' m.long m.head z i.sized;
    core = rw (
      m.head readers_at (omega arith),
      m.head publishers_at (omega arith),
      m.current_is,
      m.readers_stay,
      publisher_field (λ (y' : Publisher). y'.place) s.words w' p y cur ver rel m,
      publisher_field (λ (y' : Publisher). y'.held) s.words w' p y cur ver rel m,
      formers_moved,
    ) core_is;
    phases = rw (m.readers_stay, publisher_field (λ (y' : Publisher). y'.place) s.words w' p y cur ver rel m) phases-is;
  }
