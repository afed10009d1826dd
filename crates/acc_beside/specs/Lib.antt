pub mod Serving
pub mod Calls
