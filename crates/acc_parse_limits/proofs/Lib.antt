pub mod Limited
pub mod Orders
pub mod Placed
pub mod Ended
pub mod WordEndings
pub mod Endings
