pub mod Stores
pub mod Staging
pub mod Held
pub mod Files
pub mod inner
