pub mod WalkTest
pub mod Groups
pub mod GroupText
pub mod Tables
pub mod Scans
pub mod Laws
pub mod inner
