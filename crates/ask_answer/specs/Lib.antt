pub mod Capacity
pub mod Answer
pub mod Parts
pub mod Run
