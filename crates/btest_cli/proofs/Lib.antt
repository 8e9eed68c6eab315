pub mod AnswerLemmas
pub mod ReadingLemmas
pub mod RequestLemmas
pub mod RunLemmas
pub mod SampleExits
mod SampleUsage
