pub use Rattle.acc_oblig_clauses.proofs.Going
pub mod Rows
pub mod Kept
pub mod Promised
pub mod Helds
pub mod Walks
