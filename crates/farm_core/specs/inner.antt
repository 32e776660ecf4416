-- Words that serve inner contracts alone.
pub mod Asks
pub mod Effects
pub mod Renews
pub mod Replays
pub mod Rooms
pub mod Saves
pub mod Starts
