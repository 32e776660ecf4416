pub mod Pulls
pub mod Turns
