pub mod CoverText
pub mod CoverList
pub mod inner
