pub mod Making
pub mod Instances
pub mod Walks
pub mod Lists
