pub mod Answered
pub mod Swaps
