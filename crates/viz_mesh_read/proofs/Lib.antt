pub mod GridLaws
pub mod GridLoops
pub mod IndexLaws
pub mod PieceLemmas
pub mod PointLaws
pub mod PolyLaws
pub mod PolyLoops
pub mod SectionLaws
