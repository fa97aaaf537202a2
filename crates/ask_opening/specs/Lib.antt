pub mod Opening
pub mod Question
