pub mod Outsides
pub mod Reported
pub mod Statuses
mod Configs
mod Features
mod LineTexts
mod Rasters
mod SavedTexts
mod Steps
mod Styles
