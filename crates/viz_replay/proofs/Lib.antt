pub mod NetworkLemmas
pub mod RunLemmas
pub mod CompleteLemmas
pub mod ServeLemmas
