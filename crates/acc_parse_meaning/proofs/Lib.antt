pub mod Endings
pub mod Ended
