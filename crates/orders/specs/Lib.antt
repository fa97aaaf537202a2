pub mod Lists
pub mod Times
pub mod Heap
pub mod Listing
