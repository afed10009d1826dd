pub mod Beginning
pub mod Closing
pub mod OneSchedule
pub mod EachSchedule
