pub mod Kinds
pub mod OutcomeForC
