pub mod HeldLemmas
pub mod DriverLemmas
pub mod ReaderLemmas
pub mod ControlLemmas
pub mod FillLemmas
pub mod NextLemmas
pub mod NumberedLemmas
mod Samples
mod SampleLaws
