pub use Rattle.acc_machine.specs.Begun
pub use Rattle.acc_machine.specs.Kept
pub use Rattle.acc_machine.specs.declared.errors.BeginError
pub mod LockRules
pub mod Passes
