pub mod Playing
pub mod Ways
pub mod Players
pub mod Details
pub mod Boards
pub mod Endings
pub mod Schedules
