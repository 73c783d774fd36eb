pub mod ListCounts
pub mod CubeSums
pub mod FacetTable
pub mod LeafFacets
pub mod GridFacets
pub mod SharedLaw
