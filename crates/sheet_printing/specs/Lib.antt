-- What the contracts of this crate cite, beside the definitions of sheet_law.
pub mod Buffer
pub mod Lines
