pub mod Cases
pub mod Typed
pub mod Sized
pub mod OneAnswer
