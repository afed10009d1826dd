pub mod Counting
pub mod Lowest
pub mod Running
pub mod Benching
