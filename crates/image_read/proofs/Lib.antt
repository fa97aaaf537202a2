mod Window
mod Answered
mod Made
mod Gathered
mod Whole
pub mod OneAnswer
