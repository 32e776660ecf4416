pub mod Laws
pub mod Reading
pub mod Savings
pub mod Writing
pub mod inner
