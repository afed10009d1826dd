pub mod Bounds
pub mod Changes
pub mod Contents
pub mod Places
pub mod Rows
pub mod Runs
pub mod Landings
