pub mod EventCounts
pub mod FourBytes
pub mod BodyReads
pub mod WholeBatches
pub mod Texts
pub mod Joining
pub mod OneStream
pub mod Feeding
