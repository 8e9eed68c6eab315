pub mod NameLemmas
pub mod ApartLemmas
pub mod MapLemmas
pub mod FaultLemmas
pub mod ChainLemmas
pub mod DifferLemmas
pub mod PinLemmas
pub mod NumberLemmas
pub mod SelectLemmas
mod Samples
