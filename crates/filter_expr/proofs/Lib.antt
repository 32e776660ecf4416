pub mod Chains
pub mod Complete
pub mod Connectives
pub mod Final
mod Firsts
pub mod Forms
pub mod Lexemes
pub mod Lexes
pub mod Local
pub mod Loops
pub mod Marked
pub mod Nodes
pub mod Numbers
pub mod Sound
pub mod Spelled
pub mod Texts
pub mod Tokenised
pub mod Turns
