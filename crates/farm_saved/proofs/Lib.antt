pub mod Back
pub mod Loops
pub mod Puts
pub mod Sound
