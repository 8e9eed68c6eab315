pub mod Bounds
pub mod Longest
pub mod Found
pub mod Gaps
pub mod LineFeeds
pub mod Places
pub mod OpenTexts
pub mod Steps
pub mod Answers
mod TextEnds
