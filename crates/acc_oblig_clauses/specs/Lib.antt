pub use Rattle.acc_oblig_assumptions.specs.Seen
pub use Rattle.acc_oblig_goals.specs.Causes
pub use Rattle.acc_oblig_goals.specs.declared.errors.ObligError
pub mod PathClauses
