-- Inner words, which serve the contracts of inner functions alone.
pub mod Reads
