pub mod Sorted
pub mod Sorts
