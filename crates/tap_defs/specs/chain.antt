-- The chain: TAP controllers, scans, the meaning of SVF text, and the chain test. These definitions do not depend on
-- boards.
pub mod Scan
pub mod ScanRows
pub mod Codes
pub mod Text
pub mod ChainScans
pub mod Tap
pub mod TestLogic
pub mod ShiftRegister
pub mod Part
pub mod Chain
pub mod Run
pub mod Clocks
pub mod SvfTokens
pub mod SvfStatements
pub mod Svf
pub mod ChainRegisters
pub mod Transport
pub mod ChainTest
