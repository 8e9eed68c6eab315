-- The board around its chain: nets under faults, texts that are safe to apply, the scans of a board's test, the
-- guarantee of the test, and the faults that explain a log.
pub mod FaultSet
pub mod NetBits
pub mod OnBoard
pub mod Quiet
pub mod TestRows
pub mod BoardScans
pub mod RowCaptures
pub mod RowDriving
pub mod BoardTest
pub mod Explaining
pub mod SingleBits
