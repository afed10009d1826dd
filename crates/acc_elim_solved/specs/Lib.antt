pub mod Meetings
pub mod Rows
