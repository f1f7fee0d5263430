pub mod Steps
pub mod Traits
pub mod KindInvariant
pub mod Counts
pub mod NeverShared
pub mod Calls
pub mod Readers
