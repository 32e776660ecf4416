pub mod PpmText
pub mod Runs
pub mod Surfaces
pub mod PpmGrammar
pub mod Laws
