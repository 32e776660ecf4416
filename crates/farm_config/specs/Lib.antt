pub mod Addresses
pub mod Configs
pub mod Kinds
pub mod Limits
pub mod Tables
pub mod inner
