pub mod Lists
pub mod RowLemmas
pub mod FoundLemmas
pub mod Notes
pub mod Made
pub mod Answered
pub mod FactsLemmas
pub mod Pulled
pub mod UsefulLemmas
pub mod Marks
pub mod Contended
mod SampleFacts
