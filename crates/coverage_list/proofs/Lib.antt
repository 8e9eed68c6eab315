mod PutLemmas
mod CoverLemmas
mod NetLemmas
mod Samples
mod SampleLines
mod SampleTruth
pub mod TruthLemmas
