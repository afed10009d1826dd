pub mod Reading
pub mod Facts
pub mod Theorem
pub mod Oversold
