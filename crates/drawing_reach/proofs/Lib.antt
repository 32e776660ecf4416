pub mod Members
pub mod Fills
pub mod Outlines
pub mod Covers
pub mod Boxes
pub mod Reaching
pub mod Edges
pub mod Unreached
