pub mod Ends
pub mod Counts
pub mod Lines
pub mod Laws
