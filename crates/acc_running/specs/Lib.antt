pub use Rattle.acc_engine.specs.Acks
pub use Rattle.acc_engine.specs.Keeping
pub mod Recorded
pub mod Running
pub mod Engines
pub mod Crashes
pub mod Laws
