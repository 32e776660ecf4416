pub mod Boxes
