pub mod Tiles
pub mod Written
pub mod Blanks
