pub mod LookFits
