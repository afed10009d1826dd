pub mod Totals
pub mod Bounds
pub mod Equalities
pub mod Worths
