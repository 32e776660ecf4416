pub mod Numbers
pub mod OneCommand
pub mod PlainWords
