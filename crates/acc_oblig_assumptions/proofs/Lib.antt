pub use Rattle.acc_oblig_places.proofs.EachPath
pub mod Counted
pub mod GuardEnds
