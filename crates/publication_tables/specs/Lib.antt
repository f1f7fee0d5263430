pub mod FillLaws
pub mod Differences
pub mod Scans
