pub mod Patterns
pub mod CodedParts
pub mod IdentTest
pub mod inner
