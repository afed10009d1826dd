pub mod Schema
pub mod Fronts
pub mod Conditions
pub mod Lines
