pub mod Promise
pub mod inner
pub mod Actors
