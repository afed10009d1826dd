pub mod Patterns
pub mod Collected
pub mod OfHypotheses
pub mod ListsMade
