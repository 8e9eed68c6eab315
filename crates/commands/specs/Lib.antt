pub mod LogRead
pub mod Requests
pub mod Worth
pub mod Summary
pub mod Answers
pub mod inner
