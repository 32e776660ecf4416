pub mod Asked
pub mod Farms
pub mod Followed
pub mod Keeping
pub mod Loading
pub mod Owing
pub mod WholeCall
pub mod Scripting
pub mod Serving
pub mod Whys
mod Steps
mod Beginning
mod Found
pub mod Kept
mod Saving
mod Readable
pub mod GoingOn
mod Restarting
