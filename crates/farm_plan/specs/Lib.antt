pub mod Plans
pub mod Drawings
pub mod Spots
pub mod Jobs
