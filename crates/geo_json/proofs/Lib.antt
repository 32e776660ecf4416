pub mod Pairs
pub mod Keys
pub mod Ids
pub mod Parts
pub mod Validity
pub mod Gathered
pub mod GatheredUpdates
