pub mod Toggles
pub mod Columns
pub mod Crossings
