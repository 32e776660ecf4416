pub mod DrawTurns
pub mod Features
pub mod Shapes
pub mod Sound
pub mod Turns
