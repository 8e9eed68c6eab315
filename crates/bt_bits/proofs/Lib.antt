pub mod ColumnLemmas
pub mod DecimalLemmas
pub mod DigitLemmas
pub mod HexLemmas
mod Samples
pub mod StackLemmas
pub mod TextLemmas
