pub mod ByKind
pub mod Kinds
pub mod Bench
