pub mod TextReadings
pub mod Keys
pub mod Kinds
pub mod Places
pub mod Tables
pub mod Laws
pub mod inner
