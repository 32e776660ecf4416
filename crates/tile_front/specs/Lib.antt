pub mod ConnStates
pub mod Tiles
pub mod inner
pub mod Targets
pub mod Heads
pub mod Requests
pub mod Laws
pub mod Answers
