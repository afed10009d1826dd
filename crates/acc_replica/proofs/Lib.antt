pub mod Comings
pub mod Stops
pub mod OneEnd
pub mod Next
pub mod Counted
