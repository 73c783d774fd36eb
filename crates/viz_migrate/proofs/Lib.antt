pub mod ServeLemmas
pub mod RunLemmas
pub mod CompleteLemmas
