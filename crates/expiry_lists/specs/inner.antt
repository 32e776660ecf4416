-- What serves inner contracts alone: how the marks are kept.
pub mod Hashing
pub mod Keeping
pub mod Nodes
pub mod Tiles
pub mod Waking
pub mod Walks
