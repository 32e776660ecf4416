pub mod Products
pub mod Testing
pub mod Boxes
pub mod Spans
pub mod Rowwise
pub mod Sides
pub mod Between
pub mod Rounds
