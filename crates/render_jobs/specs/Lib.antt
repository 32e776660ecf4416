pub mod Shared
pub mod Faults
pub mod Given
pub mod inner
