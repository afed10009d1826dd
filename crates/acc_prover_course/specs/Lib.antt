pub use Rattle.acc_prover_branch.specs.AxiomPasses
pub use Rattle.acc_prover_branch.specs.Courses
pub use Rattle.acc_prover_branch.specs.Known
pub use Rattle.acc_prover_branch.specs.declared.halts.Halt
pub mod Passes
pub mod Searches
