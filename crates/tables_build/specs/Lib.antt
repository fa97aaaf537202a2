pub mod Answered
pub mod Build
pub mod Meaning
pub mod Order
