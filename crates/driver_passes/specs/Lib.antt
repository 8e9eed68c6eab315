pub mod Useful
pub mod inner
