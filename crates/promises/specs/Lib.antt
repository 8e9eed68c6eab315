pub mod Runs
pub mod Gives
pub mod Logs
pub mod Promises
pub mod inner
