-- What serves inner contracts alone: what each event makes of a farm's parts.
pub mod Events
