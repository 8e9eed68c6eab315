pub mod Answers
pub mod InputFaults
pub mod TextsRead
pub mod DevicesRead
pub mod BoardRead
pub mod IdentsRead
pub mod inner
