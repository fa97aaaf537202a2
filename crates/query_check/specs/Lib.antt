pub mod Refusals
pub mod Below
pub mod Clear
