pub mod PlainLemmas
pub mod PlaceLemmas
pub mod RowLemmas
pub mod CalledLemmas
pub mod GrammarLemmas
pub mod Parses
pub mod NumberLemmas
mod Samples
