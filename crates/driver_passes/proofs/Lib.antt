pub mod ControlLemmas
pub mod ChosenLemmas
pub mod DraftLemmas
pub mod FitLemmas
pub mod ProgressLemmas
pub mod NumberSetLemmas
pub mod BlockLemmas
pub mod RowLemmas
pub mod TestedLemmas
pub mod SharerLemmas
pub mod WalkLemmas
pub mod AlikeLemmas
pub mod PairLemmas
pub mod EnabledLemmas
pub mod DoneLemmas
pub mod FirstLemmas
pub mod UsefulLemmas
mod Samples
