pub mod Chain
pub mod Rows
