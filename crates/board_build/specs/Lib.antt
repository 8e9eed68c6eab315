pub mod BoardNets
pub mod BoardRules
pub mod inner
