pub mod Lefts
pub mod Weights
pub mod Accepted
pub mod Shown
pub mod ReadOn
