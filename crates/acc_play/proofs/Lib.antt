pub mod Telling
pub mod OneTold
