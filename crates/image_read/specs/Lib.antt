pub mod Reads
pub mod Plan
