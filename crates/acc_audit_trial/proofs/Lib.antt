pub mod Loops
pub mod Far
pub mod Truths
