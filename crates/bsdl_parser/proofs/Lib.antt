pub mod Integers
pub mod Decided
pub mod Stopped
pub mod AttributeKinds
pub mod Sizes
pub mod Answers
