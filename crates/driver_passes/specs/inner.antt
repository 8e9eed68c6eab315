-- Definitions for proofs and for the contracts of private functions. No public contract cites them.
pub mod Drafts
pub mod Walks
pub mod NumberSets
pub mod Blocks
pub mod Sharers
pub mod Shown
pub mod Tested
pub mod Progress
pub mod Alike
pub mod Pairs
