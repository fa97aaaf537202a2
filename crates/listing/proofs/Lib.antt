pub mod Stepping
pub mod Circle
pub mod Listed
pub mod SameAccesses
pub mod Passes
pub mod NextLists
pub mod OneAnswer
