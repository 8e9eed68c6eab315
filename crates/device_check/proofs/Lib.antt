mod TextLemmas
mod OrderLemmas
mod StringLemmas
mod NumberedLemmas
mod FoundLemmas
mod AnswerLemmas
mod OneAnswer
mod SomeAnswer
pub mod ListingLemmas
mod ListingRuns
mod Samples
