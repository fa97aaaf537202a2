pub mod Parts
pub mod Asked
