pub mod TriedDesigns
pub mod Stops
pub mod Cases
pub mod Candidates
pub mod Advices
pub mod Steps
pub mod Laws
