pub mod Systems
pub mod Made
pub mod Repetitions
