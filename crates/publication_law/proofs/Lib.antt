-- That each shared step keeps the invariant.
pub mod Keeps
pub mod Served
pub mod GraceKeeps
-- Theorems of table and damage test, for the code and for the proofs above.
pub mod InBounds
pub mod Clear
pub mod Calls
pub mod Frames
pub mod TableLaws
pub mod SharedFacts
-- What is promised of every kind that shows its part.
pub mod Detector
pub mod KindShows
pub mod Promises
pub mod FreeSlot
