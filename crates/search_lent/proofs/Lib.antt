pub mod Agree
pub mod Whole
pub mod OneAnswer
