pub mod Refusals
pub mod NamesView
