pub mod Locality
pub mod Mistakes
pub mod Examples
pub mod Promise
