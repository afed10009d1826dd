pub mod Schedules
pub mod Closings
pub mod Laws
