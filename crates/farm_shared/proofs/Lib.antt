pub mod Names
pub mod Given
pub mod Beginning
pub mod Shares
pub mod Orders
pub mod Flying
pub mod Replying
pub mod Steps
