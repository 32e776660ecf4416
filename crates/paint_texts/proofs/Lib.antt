pub mod Grammar
pub mod Runs
pub mod Exact
