pub mod ActionReaders
pub mod ReadReaders
pub mod StepReaders
