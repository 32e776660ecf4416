pub mod Spots
pub mod Keys
