pub mod CoefficientValues
pub mod PartValues
pub mod SummandValues
pub mod InstanceValues
pub mod RowPlaces
pub mod RowSums
