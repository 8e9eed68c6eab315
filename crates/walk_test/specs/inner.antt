-- Definitions for proofs and for the contracts of private functions. No public contract cites them.
pub mod Setting
pub mod Tables
pub mod Filled
pub mod Digits
pub mod Reading
