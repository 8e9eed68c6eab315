pub mod Batch
pub mod Verdicts
pub mod BatchText
pub mod OwnTexts
pub mod Laws
pub mod inner
