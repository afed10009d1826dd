pub mod Lines
pub mod Provings
pub mod Founds
pub mod Findings
pub mod Laws
