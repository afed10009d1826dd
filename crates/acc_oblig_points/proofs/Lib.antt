pub mod Assembled
pub mod CountedVariables
