pub mod Spelled
pub mod SpelledNodes
