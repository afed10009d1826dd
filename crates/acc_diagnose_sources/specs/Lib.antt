pub mod Shown
pub mod Sources
