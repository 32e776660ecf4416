pub mod Running
pub mod Stepped
pub mod Stepping
pub mod Summing
pub mod Tiles
pub mod Weights
