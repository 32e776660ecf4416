pub mod Renderd
pub mod inner
