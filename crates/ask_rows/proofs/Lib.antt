pub mod Wide
pub mod InFront
pub mod Stepped
pub mod Shown
pub mod Joined
pub mod Whole
pub mod OneAnswer
