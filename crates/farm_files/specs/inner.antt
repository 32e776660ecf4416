-- Words that serve inner contracts alone.
pub mod Rasters
pub mod Follows
pub mod Runs
