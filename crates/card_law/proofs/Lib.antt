pub mod CardLaws
pub mod CardSheet
pub mod CardExamples
