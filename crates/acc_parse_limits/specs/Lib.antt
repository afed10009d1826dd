pub mod Numbers
pub mod Marks
pub mod Words
pub mod Statements
pub mod Faults
pub mod Walks
