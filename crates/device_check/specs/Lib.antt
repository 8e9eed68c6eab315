pub mod Sources
pub mod Attributes
pub mod Needed
pub mod NumberedSources
pub mod DeviceStrings
pub mod SoundDevice
pub mod DeviceText
pub mod inner
