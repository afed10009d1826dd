pub mod Cutting
pub mod Decimals
pub mod LineSteps
pub mod OrderSteps
pub mod Refusals
pub mod CallSteps
pub mod TapeSteps
pub mod Sizes
