pub mod Attributes
pub mod Coordinates
pub mod DataTexts
pub mod FeatureTexts
pub mod Geometries
pub mod Openings
pub mod UpdateTexts
pub mod inner
