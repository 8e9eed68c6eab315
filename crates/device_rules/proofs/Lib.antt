pub mod ItemLemmas
pub mod TableLemmas
pub mod LeastLemmas
mod NumberedLemmas
pub mod CellLemmas
pub mod RuleLemmas
pub mod RangeLemmas
pub mod BitLemmas
pub mod NameLemmas
pub mod PinLemmas
pub mod NamedLemmas
pub mod RawLemmas
pub mod IsDeviceLists
pub mod IsDevicePorts
pub mod IsDevicePins
pub mod IsDeviceBits
pub mod IsDeviceTaps
pub mod IsDeviceCodes
pub mod IsDeviceCells
pub mod IsDevicePlaces
pub mod IsDevice
mod Samples
mod SampleKeeps
