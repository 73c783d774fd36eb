pub mod DecisionLemmas
pub mod ReadingLemmas
pub mod WorkLemmas
pub mod OneLemmas
