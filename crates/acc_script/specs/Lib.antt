pub mod Pieces
pub mod Numerals
pub mod LineReadings
pub mod CallLines
pub mod CallParts
pub mod OrderLines
pub mod BeginSizes
