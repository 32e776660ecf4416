pub mod Cell
pub mod Plays
pub mod Words
