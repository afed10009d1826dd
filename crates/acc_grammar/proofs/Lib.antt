pub mod Exact
pub mod Many
pub mod LoopFaults
pub mod RunReaders
pub mod Rows
pub mod Leads
pub mod Adding
