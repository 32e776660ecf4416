pub mod FilterCodes
