pub mod Runs
pub mod Counts
pub mod Conditions
pub mod Closings
pub mod Benches
pub mod Answers
