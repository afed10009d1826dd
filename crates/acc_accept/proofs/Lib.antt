pub mod Rules
pub mod Lacking
pub mod Soundness
pub mod OneRefusal
pub mod Judging
