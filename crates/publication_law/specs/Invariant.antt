-- What a store of every kind keeps on its words, through the views: the definitions. InvariantLaws and Keeps show that each call keeps it.
-- It names nothing of grace periods: GraceInvariant adds that.
use Rattle.std.specs.Prelude.{ℕ, ◌≡◌, Bool, ◌&&◌, ◌||◌, leb, eqb}
use Rattle.calls.specs.Numbers.{place_swapped}
use Rattle.layout.specs.declared.Publisher.{Publisher}
use Rattle.layout.specs.Layout.{readers, publishers, slots, current, slot_entry}
use Rattle.statement.specs.Machine.{State, Given, retires, retired_slot}
use Rattle.statement.specs.KeptInvariant.{Ghost}
use Rattle.publication_law.specs.Steps.{reader, publisher}
use Rattle.publication_law.specs.Damage.{DamageRules}
use Rattle.publication_law.specs.DamageLaws.{Undamaged}
use Rattle.publication_law.specs.Core.{Core}
use Rattle.publication_law.specs.Phases.{Phases}

-- A publisher's former slot, which was current before its swap: from place 34 on the one that its record names.
abbrev pub former_at : ℕ → ℕ → ℕ → Bool
former_at place held slot = leb place_swapped place && eqb held slot

abbrev pub formers : Publisher → ℕ → Bool
formers y = former_at y.place y.held

-- All former slots of publisher p, whose record is y: in a kind that retires slots also the retired ones.
abbrev pub formers_of : Bool → State → ℕ → Publisher → ℕ → Bool
formers_of retiring s p y slot = (retiring && retired_slot s p slot) || formers y slot

-- The store has the sizes that it was made with.
pub record Sized (z : Given) (s : State) : Type 0 where
  pub readers_are : readers s.words ≡ z.readers
  pub publishers_are : publishers s.words ≡ z.publishers
  pub slots_are : slots s.words ≡ z.slots

-- Core and Phases of the store's words and entries, where the calls told g.
abbrev pub CoreOf : DamageRules → Ghost → State → Type 0
CoreOf K g s = Core g.model g.told (readers s.words) (publishers s.words) (current s.words)
    (λ r. (reader s r).place) (λ r. (reader s r).picked) (λ p. (publisher s p).place) (λ p. (publisher s p).held) (λ p. formers_of (retires K.number) s p (publisher s p)) (slot_entry s.entries)

abbrev pub PhasesOf : Ghost → State → Type 0
PhasesOf g s = Phases g.tally.place g.tally.phase (λ r. (reader s r).place) (λ p. (publisher s p).place)

-- Of a store of kind K made with the arguments z, where the calls told g.
pub record Invariant (K : DamageRules) (z : Given) (g : Ghost) (s : State) : Type 0 where
  -- it is undamaged
  pub no_damage : Undamaged K s
  -- it has the sizes that it was made with
  pub sized : Sized z s
  -- its slots, readers and publishers are as Core says
  pub core : CoreOf K g s
  -- places and phases are as the calls told
  pub phases : PhasesOf g s
