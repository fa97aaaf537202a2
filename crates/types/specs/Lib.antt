pub mod Answered
pub mod Types
pub mod Record
pub mod Meaning
