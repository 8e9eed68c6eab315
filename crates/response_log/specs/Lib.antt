pub mod LogRows
pub mod Kept
pub mod FirstOffense
