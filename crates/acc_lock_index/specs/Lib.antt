pub mod Roles
pub mod Asks
pub mod Indexed
