pub mod Toggling
pub mod Downward
pub mod Corners
pub mod Filling
