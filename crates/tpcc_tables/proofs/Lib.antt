pub mod RowFacts
pub mod Fronts
pub mod KeyFacts
pub mod Rising
pub mod Choices
pub mod LineFacts
pub mod SchemaFacts
