pub use Rattle.acc_formed.specs.Ranges as FormedRanges
pub use Rattle.acc_formed.specs.Sizes
pub use Rattle.acc_formed.specs.WellFormed
pub use Rattle.acc_preconditions.specs.Preconditions
pub mod Naming
pub mod Relations
pub mod Settings
pub mod Drafts
pub mod PathPromises
pub mod Spares
pub mod PointRules
pub mod Ranges
pub mod Laws
pub mod Trials
