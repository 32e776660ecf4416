pub mod Places
pub mod Signs
