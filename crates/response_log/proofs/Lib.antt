pub mod KeptLemmas
pub mod LineLemmas
mod LawLemmas
mod OffenseLemmas
mod SampleTests
mod SampleDigits
