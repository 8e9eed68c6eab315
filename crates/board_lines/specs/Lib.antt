pub mod Faults
pub mod BoardLimits
pub mod Names
pub mod Selection
pub mod NetWords
pub mod ChainParts
pub mod PinRows
pub mod LineRules
