pub mod Look
pub mod OneAnswer
