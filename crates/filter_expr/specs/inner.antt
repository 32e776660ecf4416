pub mod Connectives
pub mod Gives
pub mod Kinds
pub mod Parts
pub mod Runs
pub mod Shown
