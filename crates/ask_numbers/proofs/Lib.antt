pub mod Bytes
pub mod Saying
pub mod Reading
pub mod OneAnswer
