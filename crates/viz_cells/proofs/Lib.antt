mod AddedLemmas
pub mod PieceLemmas
pub mod NumberLemmas
pub mod CrossingLemmas
pub mod KeyLemmas
pub mod EdgeLemmas
pub mod NamedLemmas
pub mod RankedLemmas
pub mod FitLemmas
pub mod MadeLemmas
pub mod NameLemmas
