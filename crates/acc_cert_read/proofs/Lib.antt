pub mod Numerals
pub mod Texts
pub mod Within
pub mod NodesWithin
