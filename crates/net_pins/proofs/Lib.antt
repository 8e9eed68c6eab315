pub mod PositionLemmas
pub mod EntryLemmas
pub mod GuardLemmas
pub mod NetTableLemmas
mod Samples
