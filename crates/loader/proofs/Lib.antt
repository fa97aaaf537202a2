pub mod Stepped
pub mod OneAnswer
pub mod Refused
