pub use Rattle.acc_oblig_goals.specs.Causes
pub use Rattle.acc_oblig_goals.specs.declared.errors.ObligError
pub mod Rows
pub mod Openings
pub mod Orders
pub mod Helds
