pub use Rattle.acc_parse_designs.specs.OwnWords
pub use Rattle.acc_parse_designs.specs.Texts as DesignsTexts
pub use Rattle.acc_parse_meaning.specs.Designs
pub use Rattle.acc_parse_meaning.specs.Sizes
pub use Rattle.acc_parse_meaning.specs.Steps
pub use Rattle.acc_parse_meaning.specs.Types
pub mod Texts
pub mod Syntax
pub mod Faults
pub mod GoodWords
