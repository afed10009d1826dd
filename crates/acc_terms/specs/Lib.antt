pub mod Parts
pub mod Collected
pub mod Sums
pub mod Worths
