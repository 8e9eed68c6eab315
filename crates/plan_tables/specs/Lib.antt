pub mod Tables
pub mod Plans
pub mod Assigned
pub mod inner
