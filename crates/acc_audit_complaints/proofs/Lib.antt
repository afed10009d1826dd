pub mod Counting
pub mod Searching
pub mod Judging
pub mod Firsts
pub mod OneFirst
pub mod OneComplaint
pub mod Unwritten
pub mod Standing
