pub mod Runs
pub mod ScriptTexts
pub mod inner
pub mod Left
