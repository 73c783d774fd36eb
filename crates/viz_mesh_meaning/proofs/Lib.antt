pub mod CellLemmas
pub mod SelectLemmas
pub mod FacetLemmas
pub mod MergeLemmas
pub mod FitLemmas
pub mod StandardFacts
