pub mod Positions
pub mod NetCells
pub mod Enabled
pub mod Tables
pub mod inner
