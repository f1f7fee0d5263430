-- Definitions: steps, damage test, a kind's table.
pub mod Steps
pub mod Damage
pub mod Table
pub mod SectionRules
pub mod KindLaw
-- The invariant: what every kind keeps, what grace periods add, and what a kind adds.
pub mod Core
pub mod Phases
pub mod Invariant
pub mod Grace
pub mod Tallied
pub mod GraceInvariant
pub mod DetectorInvariant
-- What keeps it.
pub mod Onward
pub mod CoreLaws
pub mod PhaseLaws
pub mod InvariantLaws
pub mod GraceLaws
pub mod TallyLaws
pub mod GraceInvariantLaws
pub mod Single
pub mod Moves
pub mod Served
pub mod GraceKeeps
-- Laws of table and damage test, for the code and for the proofs above.
pub mod DamageLaws
pub mod InBounds
pub mod Clear
pub mod Decide
pub mod Looks
pub mod TableLaws
pub mod SharedFacts
-- What a kind must show, and what is promised of every kind that does; the theorems stand in proofs/.
pub mod KindShows
pub mod Varied
pub mod Promises
