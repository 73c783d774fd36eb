pub mod PieceLemmas
pub mod SlabLemmas
