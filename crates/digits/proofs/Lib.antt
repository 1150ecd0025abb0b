pub mod Parts
pub mod Weighted
pub mod Determined
