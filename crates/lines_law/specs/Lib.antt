pub mod Lines
pub mod Joining
