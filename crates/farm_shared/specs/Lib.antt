pub mod Shared
pub mod inner
pub mod Seats
pub mod Afters
pub mod Promises
pub mod Needs
