pub mod Adding
pub mod Unnamed
pub mod Tallying
pub mod Giving
pub mod KeyParts
pub mod OneRange
