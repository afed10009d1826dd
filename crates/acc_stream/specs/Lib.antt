pub mod Streams
pub mod Following
pub mod Reading
