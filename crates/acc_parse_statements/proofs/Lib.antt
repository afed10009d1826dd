pub mod FirstLines
pub mod Fronts
pub mod Within
pub mod ClauseEnds
pub mod Counted
pub mod Walks
pub mod OneLine
