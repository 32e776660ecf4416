pub mod Boxes
pub mod Told
pub mod inner
pub mod Held
pub mod Playing
pub mod Scripts
