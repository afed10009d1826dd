pub mod Facts
pub mod Holding
pub mod Theorem
pub mod Clones
pub mod Reading
