pub mod Cells
pub mod Select
pub mod Append
pub mod Facets
pub mod Merge
pub mod Laws
pub mod FitLaws
