pub mod Seen
pub mod Stands
pub mod Reads
pub mod inner
