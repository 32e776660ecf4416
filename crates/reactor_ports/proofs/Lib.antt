pub mod Boxes
pub mod Once
pub mod Changes
pub mod Hearing
pub mod Overs
pub mod Telling
