pub mod Tuples
pub mod Complaints
pub mod Since
