pub mod Claim
pub mod Fooled
