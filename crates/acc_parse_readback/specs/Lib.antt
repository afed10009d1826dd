pub use Rattle.acc_parse_names.specs.Faults as NamesFaults
pub use Rattle.acc_parse.specs.Designs
pub use Rattle.acc_parse.specs.Faults
pub use Rattle.acc_parse.specs.Syntax
pub use Rattle.acc_parse.specs.Texts
pub use Rattle.acc_parse.specs.declared.errors.ParseError
pub mod Trees
pub mod TypeTrees
pub mod Printable
pub mod PrintableTypes
