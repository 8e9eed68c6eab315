pub mod Kept
pub mod Facts
pub mod Cells
pub mod Found
pub mod inner
