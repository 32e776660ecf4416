pub mod Boxes
pub mod NamedBoxes
pub mod Marks
pub mod inner
