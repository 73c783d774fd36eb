pub mod OrderLemmas
pub mod LeadLemmas
pub mod GroupLemmas
pub mod CellLemmas
pub mod RepeatLemmas
pub mod PassLemmas
pub mod MadeLemmas
