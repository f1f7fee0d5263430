pub mod Safety
pub mod Promises
pub mod NeverShared
pub mod Calls
pub mod Readers
pub mod Scans
