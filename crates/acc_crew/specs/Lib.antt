pub mod Works
pub mod Idle
pub mod Calls
