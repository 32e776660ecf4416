pub mod Answers
pub mod Begins
pub mod inner
