pub use Rattle.acc_formed.specs.WellFormed
