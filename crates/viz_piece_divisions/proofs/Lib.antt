pub mod PieceLemmas
pub mod ShareLemmas
pub mod NarrowLemmas
