pub mod Coefficients
pub mod Summands
pub mod Instances
pub mod Meanings
