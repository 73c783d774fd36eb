pub mod ListLemmas
pub mod MarkLemmas
pub mod SeenLemmas
pub mod LevelLemmas
pub mod KeepLemmas
pub mod PieceLemmas
pub mod CutLemmas
pub mod RequestLemmas
