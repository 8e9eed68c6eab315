-- Definitions for proofs and for the contracts of private functions. No public contract cites them.
pub mod Effects
pub mod Tested
pub mod Marks
pub mod Suspects
pub mod Kept
pub mod NetRows
pub mod Words
pub mod Telling
