-- Its invariant, and that each call keeps it.
pub mod Freeing
pub mod Epochs
pub mod Moves
pub mod Safety
-- The theorems.
pub mod Frames
pub mod Promises
pub mod Facts
pub mod Surely
-- Laws for its code.
pub mod Calls
pub mod Scans
