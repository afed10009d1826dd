pub mod Chains
pub mod SparseSteps
pub mod DivisorSteps
pub mod Worths
pub mod Entries
