pub mod inner
pub mod Filters
pub mod Values
