pub mod UnderLoops
pub mod GainLoops
pub mod ActionLoops
