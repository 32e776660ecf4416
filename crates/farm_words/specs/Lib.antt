pub mod Values
pub mod Forms
