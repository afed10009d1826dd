pub mod Bounds
pub mod Clears
pub mod OneClause
