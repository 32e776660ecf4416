-- Words that serve inner contracts alone.
pub mod Fields
pub mod Behind
