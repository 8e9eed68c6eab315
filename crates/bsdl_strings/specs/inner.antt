-- Definitions for proofs and for the contracts of private functions. No public contract cites them.
pub mod Reading
pub mod Takes
