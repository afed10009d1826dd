pub use Rattle.acc_instanced.specs.Coefficients
pub use Rattle.acc_instanced.specs.Summands
pub mod Causes
