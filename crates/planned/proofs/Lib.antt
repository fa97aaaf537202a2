pub mod Initial
pub mod Written
pub mod Slots
pub mod Places
pub mod ScanFits
pub mod Promised
pub mod Passes
