-- Definitions for proofs and for the contracts of private functions. No public contract cites them.
pub mod Rows
pub mod Unput
pub mod Boards
