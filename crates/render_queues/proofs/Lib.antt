pub mod Chains
pub mod Counted
pub mod Ends
pub mod Entries
pub mod History
pub mod Items
pub mod Keys
pub mod Sound
