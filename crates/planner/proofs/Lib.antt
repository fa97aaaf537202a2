pub mod Answered
pub mod Statements
pub mod Tracks
pub mod Begun
pub mod Slots
pub mod Accepted
pub mod Numbers
pub mod OneAnswer
