pub mod Worths
pub mod Trials
