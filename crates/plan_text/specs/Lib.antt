pub mod Answered
pub mod Text
pub mod Answer
