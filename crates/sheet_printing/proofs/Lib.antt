-- The laws behind the proofs of the functions.
pub mod Puts
pub mod Spelling
