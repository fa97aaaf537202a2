pub mod Read
pub mod Agree
pub mod Whole
pub mod OneAnswer
