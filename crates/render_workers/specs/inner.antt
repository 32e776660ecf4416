-- Words that serve a worker's single rounds.
pub mod Nexts
