pub mod Begun
pub mod Feeds
