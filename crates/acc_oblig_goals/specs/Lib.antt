pub mod Causes
pub mod Shares
