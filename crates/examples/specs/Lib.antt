pub mod Bench
pub mod Table
