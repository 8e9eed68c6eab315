-- Definitions for proofs and for the contracts of private functions. No public contract cites them.
pub mod Cutting
pub mod Judging
pub mod Reading
