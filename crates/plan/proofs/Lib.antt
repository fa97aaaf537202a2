pub mod Codes
pub mod Counts
pub mod OneAnswer
