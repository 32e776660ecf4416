pub mod Readings
pub mod Doing
