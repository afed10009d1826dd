pub mod Fractions
pub mod Points
pub mod Searches
pub mod FalseConstants
