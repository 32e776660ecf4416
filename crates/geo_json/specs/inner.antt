pub mod Gathered
pub mod Keys
pub mod KnownIds
pub mod Parts
