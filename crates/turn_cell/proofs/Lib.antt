pub mod Sums
pub mod Logs
pub mod Facts
pub mod Keeps
pub mod Seating
pub mod Turning
pub mod Counting
