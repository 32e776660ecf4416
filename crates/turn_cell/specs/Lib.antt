pub mod SeatStates
pub mod Turns
pub mod inner
