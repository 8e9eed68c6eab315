-- Definitions for proofs, for the models of types and for the contracts of private functions. No public contract cites them.
pub mod Rows
