pub mod Laws
pub mod Steps
pub mod Bytes
pub mod Over
pub mod OneAnswer
