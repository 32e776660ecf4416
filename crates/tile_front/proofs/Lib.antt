pub mod OwnEntries
pub mod Wishes
pub mod Says
pub mod Heards
pub mod Replieds
pub mod EntryKinds
pub mod HeadTexts
pub mod TargetTexts
