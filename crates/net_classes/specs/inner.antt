-- Definitions for proofs and for the contracts of private functions. Public contracts cite only those in Kept and Pairs.
pub mod Kept
pub mod Pairs
pub mod Known
pub mod ControlSets
pub mod Closed
pub mod PairRows
