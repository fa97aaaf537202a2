pub mod Nested
pub mod Stood
pub mod Slots
pub mod Steady
pub mod Pending
