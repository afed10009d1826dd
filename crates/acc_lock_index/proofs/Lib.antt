pub mod Members
pub mod Clashing
pub mod Firsts
pub mod Barring
pub mod Keeping
pub mod Lists
pub mod Changing
pub mod Keepers
