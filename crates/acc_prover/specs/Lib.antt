pub use Rattle.acc_prover_searched.specs.BranchCourses as BranchCourses
pub use Rattle.acc_prover_searched.specs.Courses
pub use Rattle.acc_prover_searched.specs.Halt
pub use Rattle.acc_prover_searched.specs.OpenLeaves
pub use Rattle.acc_prover_searched.specs.Searches
pub mod Tellings
