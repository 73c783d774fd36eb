pub mod Facets
pub mod Zeros
