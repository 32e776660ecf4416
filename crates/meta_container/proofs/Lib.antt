pub mod Entries
pub mod Index
pub mod Heads
pub mod Written
pub mod Drawn
