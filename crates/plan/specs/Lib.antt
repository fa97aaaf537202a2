pub mod Codes
pub mod Plan
