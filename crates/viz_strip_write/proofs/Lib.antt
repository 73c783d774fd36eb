pub mod TextLemmas
pub mod CellLemmas
pub mod FitLemmas
pub mod PointLemmas
