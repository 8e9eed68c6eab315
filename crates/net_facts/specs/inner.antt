-- Definitions for proofs, for the models of types and for the contracts of private functions. No public contract cites them.
pub mod Found
pub mod Facts
pub mod Switching
pub mod Shared
pub mod Rows
pub mod Answers
