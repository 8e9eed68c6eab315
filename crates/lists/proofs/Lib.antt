pub mod Booleans
pub mod ListLemmas
pub mod RowLemmas
mod Samples
