pub mod Answered
pub mod Refusals
pub mod Planning
pub mod Record
