pub mod OnceLemmas
pub mod LeafLemmas
pub mod BoundaryLemmas
pub mod FitLaw
