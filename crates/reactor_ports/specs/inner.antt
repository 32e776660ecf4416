-- Inner words, which serve the contracts of inner functions alone.
pub mod Places
pub mod Moving
pub mod Pieces
