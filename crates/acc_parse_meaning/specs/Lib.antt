pub use Rattle.acc_parse_clauses.specs.Forms
pub use Rattle.acc_parse_clauses.specs.Scopes
pub use Rattle.acc_parse_clauses.specs.Sizes as ClausesSizes
pub use Rattle.acc_parse_clauses.specs.Values
pub mod Steps
pub mod Types
pub mod Designs
pub mod Sizes
pub mod Bodies
pub mod Questions
