pub mod Answers
pub mod Numbers
pub mod Sparse
pub mod Divisors
pub mod Rows
