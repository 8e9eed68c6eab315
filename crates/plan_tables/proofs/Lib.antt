pub mod AssignLemmas
pub mod LaidLemmas
pub mod PinLemmas
pub mod HeldLemmas
pub mod RowLemmas
pub mod SizeLemmas
pub mod BuildLemmas
pub mod QuietLemmas
pub mod CodeLemmas
pub mod TableLemmas
pub mod ReaderTableLemmas
pub mod DriverTableLemmas
pub mod ObserverLemmas
pub mod PassLemmas
pub mod SeenLemmas
pub mod PlanLemmas
pub mod SteadyLemmas
mod Samples
mod SamplePlans
