-- Definitions for proofs and for the contracts of private functions. No public contract cites them.
pub mod Building
pub mod Codes
pub mod Laid
pub mod QuietBits
pub mod Rows
pub mod Steady
