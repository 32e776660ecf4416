-- What serves inner contracts alone: the one table of all that waits.
pub mod Entries
