pub mod Diagnosis
pub mod DiagText
pub mod Laws
pub mod inner
