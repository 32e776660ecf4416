pub mod Texts
pub mod Heads
pub mod Streams
pub mod Written
