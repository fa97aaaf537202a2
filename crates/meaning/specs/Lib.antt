pub mod Demand
pub mod Reasons
