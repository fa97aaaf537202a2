pub mod Answered
pub mod Search
pub mod FirstLeast
pub mod Best
