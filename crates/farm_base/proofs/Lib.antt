pub mod Outcomes
mod Reading
mod Fronts
pub mod NumberTexts
pub mod CutTexts
