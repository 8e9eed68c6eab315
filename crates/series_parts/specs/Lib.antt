pub mod Nets
pub mod JoinedFiles
pub mod LinkPins
pub mod Joining
pub mod Lines
pub mod inner
