pub mod ReadLaws
pub mod ActionLaws
pub mod TargetLaws
pub mod StepLaws
