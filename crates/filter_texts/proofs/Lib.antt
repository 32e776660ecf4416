pub mod Again
pub mod Escapes
pub mod Pieces
