pub mod Squares
pub mod Windows
