pub mod Edges
pub mod Places
pub mod Adding
pub mod Naming
pub mod Dirtied
pub mod Reached
