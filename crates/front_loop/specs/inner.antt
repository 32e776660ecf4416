-- Inner words, which serve the contracts of inner functions alone: what a front's sessions have to do with its rounds.
pub mod Sessions
pub mod Stands
pub mod Stages
pub mod Moments
