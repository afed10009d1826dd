pub mod Parts
pub mod Spellings
pub mod Words
pub mod Causes
pub mod Forms
pub mod Nodes
pub mod Certificates
