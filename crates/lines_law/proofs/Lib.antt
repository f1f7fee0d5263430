pub mod LineLaws
pub mod Joining
