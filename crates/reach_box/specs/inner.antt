pub mod Lookups
pub mod Sizes
