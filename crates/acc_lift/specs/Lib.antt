pub mod RunRules
pub mod Laws
pub mod Acceptance
