pub mod Audits
pub mod Events
pub mod Since
pub mod Totals
