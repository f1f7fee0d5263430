pub mod Examples
pub mod Precedence
pub mod DamageCases
pub mod Refuted
pub mod Carried
