pub mod Settling
pub mod Owners
pub mod Gathering
pub mod Stopping
pub mod Keeping
pub mod Calls
pub mod Acting
