pub mod Plans
pub mod Planned
pub mod PassRows
pub mod Laws
pub mod inner
