pub mod Fields
pub mod Slots
pub mod Written
pub mod OneAnswer
