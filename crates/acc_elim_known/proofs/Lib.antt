pub mod Ended
pub mod Knowns
