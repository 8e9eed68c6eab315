pub mod Places
pub mod BoardLemmas
pub mod ControlOrder
pub mod Driving
pub mod Pairwise
pub mod SafeSettings
pub mod Covered
pub mod Reasons
pub mod Samples
mod SamplePins
mod SampleTerms
mod SampleRules
mod SampleWhole
pub mod SampleLaws
pub mod Members
pub mod PassSettings
pub mod PassesKept
pub mod PassesReach
mod PassesDiffer
pub mod SingleFaults
mod Checks
mod DeviceChecks
pub mod BoardChecks
pub mod CodeLemmas
pub mod CellLemmas
pub mod SameBits
pub mod Ordered
pub mod PassWords
