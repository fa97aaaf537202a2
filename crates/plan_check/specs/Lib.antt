pub mod Check
pub mod Record
pub mod Promised
