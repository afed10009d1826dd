pub mod Lefts
pub mod Extended
pub mod Carried
