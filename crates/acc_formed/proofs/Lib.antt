pub mod InRange
pub mod Runs
pub mod Uses
pub mod Open
