pub use Rattle.acc_engine.proofs.Tails
mod Saying
mod Recording
mod States
mod Crashing
mod Growing
mod OverJournals
mod Working
pub mod OneRun
pub mod Again
