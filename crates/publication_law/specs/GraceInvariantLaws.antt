-- A reader or a publisher moves: what holds of grace periods besides, of the new words. Assumes nothing.
use Rattle.std.specs.Prelude.{ℕ, List, ℤ}
use Rattle.std.proofs.Common.{arith}
use Rattle.base.specs.Base.{upd}
use Rattle.layout.specs.declared.Reader.{Reader}
use Rattle.layout.specs.declared.Publisher.{Publisher}
use Rattle.layout.specs.Layout.{releases_at, releases}
use Rattle.statement.specs.Machine.{State, state, Given}
use Rattle.statement.specs.KeptInvariant.{Ghost}
use Rattle.publication_law.specs.Steps.{reader, publisher}
use Rattle.publication_law.specs.Damage.{DamageRules}
use Rattle.publication_law.specs.Grace.{Grace}
use Rattle.publication_law.specs.Tallied.{Tallied}
use Rattle.publication_law.specs.Moves.{MovesPublisher, publisher_field, MovesReader, reader_field}
use Rattle.publication_law.specs.Invariant.{formers, Invariant}
use Rattle.publication_law.specs.GraceInvariant.{GraceInvariant}

-- A reader moves.
pub reader_moved_grace : (K : DamageRules) (z : Given) (s : State) (g' : Ghost) (w' : List ℕ) (r : ℕ) (x : Reader) → MovesReader s.words w' r x → Invariant K z g' (state w' s.entries)
    → Grace g'.told.inside g'.pend (upd (λ j. (reader s j).place) r x.place) (upd (λ j. (reader s j).picked) r x.picked) (λ p. (publisher s p).place) (λ p. formers (publisher s p))
    → Tallied g'.tally.waits g'.tally.releases (λ p. (publisher s p).place) (λ p. (publisher s p).walk.waits) (releases s.words)
    → GraceInvariant K z g' (state w' s.entries)
reader_moved_grace K z s g' w' r x m i d e = record {
  every = i;
  grace = rw (m.publishers_stay, reader_field (λ (x' : Reader). x'.place) s.words w' r x m, reader_field (λ (x' : Reader). x'.picked) s.words w' r x m) d;
  tallied = rw (m.head releases_at (omega arith), m.publishers_stay) e;
}

-- A publisher moves.
pub publisher_moved_grace : (K : DamageRules) (z : Given) (s : State) (g' : Ghost) (w' : List ℕ) (es' : List ℤ) (p : ℕ) (y : Publisher) (cur ver rel : ℕ) → MovesPublisher s.words w' p y cur ver rel → Invariant K z g' (state w' es')
    → Grace g'.told.inside g'.pend (λ j. (reader s j).place) (λ j. (reader s j).picked) (upd (λ q. (publisher s q).place) p y.place) (upd (λ q. formers (publisher s q)) p (formers y))
    → Tallied g'.tally.waits g'.tally.releases (upd (λ q. (publisher s q).place) p y.place) (upd (λ q. (publisher s q).walk.waits) p y.walk.waits) rel
    → GraceInvariant K z g' (state w' es')
publisher_moved_grace K z s g' w' es' p y cur ver rel m i d e = record {
  every = i;
  grace = rw (m.readers_stay, publisher_field (λ (y' : Publisher). y'.place) s.words w' p y cur ver rel m, publisher_field formers s.words w' p y cur ver rel m) d;
  tallied = rw (m.releases_is, publisher_field (λ (y' : Publisher). y'.place) s.words w' p y cur ver rel m, publisher_field (λ (y' : Publisher). y'.walk.waits) s.words w' p y cur ver rel m) e;
}
