pub mod Reading
pub mod Handed
pub mod Theorem
pub mod OneAnswer
pub mod Bytes
