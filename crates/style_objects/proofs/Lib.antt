pub mod ByGrammar
pub mod Opening
pub mod Parts
