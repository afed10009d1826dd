pub mod RowSteps
pub mod Names
