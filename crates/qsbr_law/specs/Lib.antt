-- Definitions: what the store fixes, and in what it differs for the companions.
pub mod Steps
pub mod Traits
-- Its invariant, and that each call keeps it.
pub mod Freeing
pub mod KindInvariant
pub mod ToldEpochs
pub mod Moves
pub mod Facts
-- Laws for its code.
pub mod Calls
