pub mod ChainLemmas
pub mod FieldLemmas
pub mod ScanLemmas
