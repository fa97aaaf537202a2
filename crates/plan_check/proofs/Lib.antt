pub mod Record
pub mod Tracks
pub mod Selects
pub mod Promises
pub mod OneAnswer
