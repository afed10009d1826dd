pub mod Growing
pub mod Calling
pub mod Beside
pub mod Settling
