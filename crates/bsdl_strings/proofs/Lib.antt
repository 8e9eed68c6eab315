pub mod PieceLemmas
pub mod Lists
pub mod CodeLemmas
pub mod ComplianceLemmas
mod Samples
