pub mod Ends
pub mod Said
pub mod Follow
pub mod OneAnswer
pub mod Nothing
