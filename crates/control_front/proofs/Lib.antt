pub mod OwnEntries
pub mod Texts
pub mod Streams
pub mod Parts
pub mod Deeds
pub mod Saying
pub mod Sorts
