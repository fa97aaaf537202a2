pub mod Laid
pub mod Written
pub mod Back
pub mod Indexes
pub mod Stepped
pub mod OneAnswer
