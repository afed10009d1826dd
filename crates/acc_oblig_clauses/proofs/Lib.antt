pub use Rattle.acc_oblig_assumptions.proofs.Counted
pub mod ClauseAdded
pub mod Going
pub mod PathAdded
pub mod Items
