pub mod Totals
pub mod Indexes
pub mod Asked
