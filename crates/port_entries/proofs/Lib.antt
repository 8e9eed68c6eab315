pub mod EntryLemmas
mod SampleEntries
