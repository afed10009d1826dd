pub mod Scopes
pub mod Values
pub mod Rows
pub mod Forms
pub mod Sizes
pub mod Views
