pub mod Kept
pub mod Laws
pub mod Pairs
pub mod NetRows
pub mod inner
