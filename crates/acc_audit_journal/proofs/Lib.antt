pub mod Counted
pub mod Judged
pub mod OneJudgement
