pub mod OneReported
pub mod Admitting
