pub mod Found
pub mod Filled
pub mod OneAnswer
