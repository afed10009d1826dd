pub mod Numbers
pub mod PathRanges
