pub mod Faults
pub mod Crashes
pub mod Moments
pub mod Standings
pub mod Changes
pub mod Histories
pub mod Laws
pub mod MemDisks
