pub mod Tests
pub mod Alike
pub mod KindNumbers
pub mod FormValues
pub mod RowFacts
pub mod AxiomTruths
pub mod NeedTruths
