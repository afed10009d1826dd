pub mod Reports
pub mod Admissions
pub mod Laws
