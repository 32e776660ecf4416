pub mod SameScale
