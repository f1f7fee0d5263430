pub mod Steps
pub mod Traits
pub mod KindInvariant
pub mod Walks
pub mod Promises
pub mod Readers
