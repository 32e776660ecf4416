pub mod Lines
pub mod Control
pub mod inner
