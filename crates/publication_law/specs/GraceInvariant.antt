-- What a store of a kind with sections and grace periods keeps: the definitions. GraceInvariantLaws and GraceKeeps show that each call keeps it.
use Rattle.layout.specs.Layout.{releases}
use Rattle.statement.specs.Machine.{State, Given}
use Rattle.statement.specs.KeptInvariant.{Ghost}
use Rattle.publication_law.specs.Steps.{reader, publisher}
use Rattle.publication_law.specs.Damage.{DamageRules}
use Rattle.publication_law.specs.Grace.{Grace}
use Rattle.publication_law.specs.Tallied.{Tallied}
use Rattle.publication_law.specs.Invariant.{formers, Invariant}

-- Grace and Tallied of the store's words, where the calls told g.
abbrev pub GraceOf : Ghost → State → Type 0
GraceOf g s = Grace g.told.inside g.pend (λ r. (reader s r).place) (λ r. (reader s r).picked) (λ p. (publisher s p).place) (λ p. formers (publisher s p))

abbrev pub TalliedOf : Ghost → State → Type 0
TalliedOf g s = Tallied g.tally.waits g.tally.releases (λ p. (publisher s p).place) (λ p. (publisher s p).walk.waits) (releases s.words)

-- Of a store of kind K made with the arguments z, where the calls told g.
pub record GraceInvariant (K : DamageRules) (z : Given) (g : Ghost) (s : State) : Type 0 where
  -- what every kind keeps
  pub every : Invariant K z g s
  -- whose section is open and for whom a synchronise has still to wait is as Grace says
  pub grace : GraceOf g s
  -- waits and releases are as the calls told
  pub tallied : TalliedOf g s
