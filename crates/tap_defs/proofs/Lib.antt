pub mod chain
pub mod board
