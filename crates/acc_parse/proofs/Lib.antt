pub use Rattle.acc_parse_designs.proofs.OwnWords
pub use Rattle.acc_parse_designs.proofs.WholeLaws
pub mod Continued
pub mod WrongLines
pub mod LoneLimit
pub mod Limited
pub mod Statements
pub mod Designs
