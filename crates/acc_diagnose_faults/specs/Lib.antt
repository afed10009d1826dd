pub mod Refusals
pub mod Certificates
