-- Words that serve the steps of a run alone.
pub mod Chain
