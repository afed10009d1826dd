pub mod Readers
pub mod Answers
pub mod Runs
