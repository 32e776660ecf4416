pub mod Slots
pub mod Near
pub mod Shared
