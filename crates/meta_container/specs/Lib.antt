pub mod Container
pub mod Heads
pub mod Reading
pub mod Laws
pub mod Drawn
