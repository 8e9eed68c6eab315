pub mod Exact
pub mod Turns
pub mod Grammars
pub mod Loops
pub mod Keeps
pub mod ListReaders
pub mod Spelled
pub mod Integers
