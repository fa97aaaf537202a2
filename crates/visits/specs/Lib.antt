pub mod Visits
pub mod Window
pub mod Sound
pub mod Pending
