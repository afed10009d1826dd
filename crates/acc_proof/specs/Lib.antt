pub mod Checked
pub mod Causes
pub mod Facts
pub mod Opened
pub mod Proofs
pub mod Laws
