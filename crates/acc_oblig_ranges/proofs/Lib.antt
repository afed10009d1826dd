pub mod PointRanges
pub mod Standing
