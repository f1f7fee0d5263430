pub mod Example
pub mod Decimals
pub mod SheetLaws
pub mod ByTable
pub mod Canonical
pub mod Replies
pub mod Only
pub mod Widths
