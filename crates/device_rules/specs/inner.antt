-- Definitions for proofs and for the contracts of private functions. No public contract cites them.
pub mod Tables
pub mod Index
pub mod Seen
pub mod Stages
pub mod Parts
