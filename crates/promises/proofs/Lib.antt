pub mod WordLemmas
mod SampleWords
mod SampleLogs
mod SampleCommands
pub mod ReadLemmas
pub mod GiveLemmas
pub mod RowLemmas
pub mod ShapeLemmas
pub mod LogLemmas
pub mod RunLemmas
mod SampleRuns
pub mod CommandLemmas
pub mod StatusLemmas
