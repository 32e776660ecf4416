pub mod Ancestors
pub mod Limits
pub mod World
