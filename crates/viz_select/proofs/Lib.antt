pub mod MarkLemmas
pub mod SelectionLemmas
