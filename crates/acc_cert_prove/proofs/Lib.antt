pub mod Feeds
pub mod LineFeeds
pub mod Readings
pub mod Adding
pub mod Judging
pub mod OneProving
pub mod Opened
