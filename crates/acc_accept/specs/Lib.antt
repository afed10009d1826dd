pub use Rattle.acc_oblig_paths.specs.Causes
pub mod Obligations
pub mod Accepting
pub mod Laws
