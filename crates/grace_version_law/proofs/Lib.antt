pub mod Walks
pub mod Safety
pub mod Promises
pub mod Calls
pub mod Readers
