pub mod Going
pub mod Lines
pub mod Mentions
pub mod Sizes
pub mod LoadSizes
pub mod MixSizes
