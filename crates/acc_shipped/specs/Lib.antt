pub mod Amounts
pub mod Texts
