pub mod Differences
pub mod Unders
pub mod Changes
pub mod Gains
pub mod Preconditions
pub mod Laws
