pub mod Used
pub mod Weight
pub mod OneAnswer
