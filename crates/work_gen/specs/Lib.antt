pub mod Draws
pub mod Work
