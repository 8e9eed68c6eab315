pub mod Texts
pub mod Refusals
pub mod Outcome
pub mod ExitNumbers
pub mod inner
