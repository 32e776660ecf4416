pub mod Drawing
pub mod Grids
pub mod Limits
pub mod Metatiles
pub mod Rules
pub mod Styles
pub mod inner
