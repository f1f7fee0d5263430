-- Definitions.
pub mod Base
pub mod Rows
-- Laws.
pub mod RowLaws
pub mod Fills
pub mod Options
pub mod Ranges
