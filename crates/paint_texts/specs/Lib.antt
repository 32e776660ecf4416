pub mod Colours
pub mod Decimals
