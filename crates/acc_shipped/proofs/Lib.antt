pub mod Worths
pub mod OwnScan
pub mod Reading
