-- Words that serve the calls under the lock alone.
pub mod Turns
