pub mod Lists
pub mod SharedLemmas
pub mod ContendedLemmas
pub mod Paired
pub mod WordLemmas
pub mod DriverPairs
pub mod ControlSetLemmas
pub mod KnownLemmas
pub mod ClosedLemmas
pub mod OtherControls
pub mod PairRowLemmas
pub mod ClosedRows
pub mod PutRows
pub mod PairWords
pub mod UnpairedWords
pub mod UsefulDrivers
mod SampleControls
