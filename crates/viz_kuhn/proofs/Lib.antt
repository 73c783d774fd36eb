pub mod CubeLemmas
pub mod PieceLemmas
pub mod RowLemmas
pub mod StandardFacts
