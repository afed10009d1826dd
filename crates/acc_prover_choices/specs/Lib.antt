pub mod Parts
pub mod Atoms
pub mod Targets
pub mod Choices
pub mod Walks
