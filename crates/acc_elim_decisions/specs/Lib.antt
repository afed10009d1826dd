pub mod Causes
pub mod Decisions
pub mod Evidence
pub mod Readings
