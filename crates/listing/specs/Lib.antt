pub mod Answered
pub mod Next
pub mod Listing
