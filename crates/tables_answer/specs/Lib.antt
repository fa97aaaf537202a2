pub mod Capacity
pub mod Answer
