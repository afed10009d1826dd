pub mod Coming
pub mod Ends
pub mod Steps
pub mod Replicas
