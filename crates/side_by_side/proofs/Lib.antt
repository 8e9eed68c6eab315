pub mod PieceLemmas
pub mod RangeLemmas
mod ShareLemmas
mod SampleTests
