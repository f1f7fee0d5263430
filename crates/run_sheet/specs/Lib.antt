pub mod TakenFrom
pub mod ReadFed
pub mod Program
