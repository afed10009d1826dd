pub mod Draws
pub mod Bounds
pub mod Writing
pub mod Loads
pub mod Mixes
pub mod Orders
