pub mod LengthLemmas
pub mod RowLemmas
pub mod ResetLemmas
pub mod IdentLemmas
mod SampleTests
