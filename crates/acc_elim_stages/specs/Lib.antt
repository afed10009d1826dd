pub mod Followed
pub mod Stages
pub mod Carried
