pub mod Marks
pub mod Statements
pub mod Faults
pub mod Walks
pub mod Judged
