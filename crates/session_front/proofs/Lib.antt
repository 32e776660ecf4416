pub mod OwnEntries
pub mod Making
pub mod Streaming
pub mod Takes
pub mod Hearings
pub mod Sorts
