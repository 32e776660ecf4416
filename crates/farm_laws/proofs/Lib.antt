pub mod Changes
pub mod Legality
pub mod Local
pub mod Newest
pub mod Promised
pub mod Refusals
pub mod Sentences
