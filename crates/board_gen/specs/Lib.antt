pub mod BoardTexts
pub mod DeviceText
pub mod Short
