pub mod Answered
pub mod Words
pub mod Steps
pub mod Next
pub mod Evaluation
