pub mod CoefficientSteps
pub mod InstanceLoops
