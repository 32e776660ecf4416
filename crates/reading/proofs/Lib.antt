pub mod LineLoop
pub mod Members
pub mod Steps
pub mod Texts
