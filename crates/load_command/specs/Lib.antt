pub mod Loads
pub mod Runs
pub mod inner
