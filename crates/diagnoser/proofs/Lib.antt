pub mod ThoseLemmas
mod FaultLemmas
mod LawLemmas
mod FoundLemmas
mod Samples
mod SampleLists
