-- Words that serve inner contracts and proofs alone.
pub mod Asks
