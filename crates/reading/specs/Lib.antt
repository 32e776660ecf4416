pub mod Json
pub mod Lines
pub mod Lists
pub mod Steps
pub mod Values
