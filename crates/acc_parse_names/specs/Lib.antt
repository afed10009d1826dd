pub mod Names
pub mod Places
pub mod Scopes
pub mod Faults
pub mod Views
pub mod Members
pub mod Least
pub mod Bodies
