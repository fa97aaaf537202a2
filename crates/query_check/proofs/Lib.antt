pub mod Walks
pub mod Constants
pub mod Capacity
pub mod Variables
pub mod OneAnswer
