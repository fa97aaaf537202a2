pub mod Copied
pub mod Back
pub mod OneAnswer
