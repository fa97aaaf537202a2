pub mod Names
pub mod Fine
pub mod OneAnswer
