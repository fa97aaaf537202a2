pub mod Answered
pub mod Windows
