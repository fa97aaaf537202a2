pub mod Answered
pub mod Answer
