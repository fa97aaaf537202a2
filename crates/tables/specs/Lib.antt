pub mod Rows
pub mod Check
pub mod Passed
pub mod Sought
