pub mod PartTexts
pub mod Pictures
