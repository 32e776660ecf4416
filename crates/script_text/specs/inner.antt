-- Words that serve inner contracts alone.
pub mod Hands
pub mod Progress
pub mod Steps
