pub mod Axioms
pub mod Kinds
pub mod Needs
pub mod SchemaEquality
pub mod Truths
