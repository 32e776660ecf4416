pub mod Laws
pub mod OneQueue
pub mod Tables
pub mod inner
