pub use Rattle.acc_elim.specs.Verdict
pub mod Courses
pub mod Known
pub mod AxiomPasses
