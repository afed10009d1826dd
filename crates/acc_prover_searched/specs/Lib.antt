pub use Rattle.acc_prover_course.specs.Courses as BranchCourses
pub use Rattle.acc_prover_course.specs.Halt
pub use Rattle.acc_prover_course.specs.Searches
pub mod OpenLeaves
pub mod Courses
