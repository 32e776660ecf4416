pub mod Boxes
pub mod Lists
pub mod Marks
pub mod Tiles
pub mod inner
