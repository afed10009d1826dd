pub use Rattle.acc_elim_decisions.specs.Decisions
pub use Rattle.acc_elim_decisions.specs.declared.verdicts.ElimError
pub use Rattle.acc_elim_decisions.specs.declared.verdicts.Verdict
pub mod Keepings
