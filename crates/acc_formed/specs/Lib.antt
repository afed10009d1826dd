pub mod Ranges
pub mod Widths
pub mod Sizes
pub mod Names
pub mod Ends
pub mod Entries
pub mod WellFormed
