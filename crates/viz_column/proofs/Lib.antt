pub mod BlockLemmas
pub mod KindLemmas
pub mod ListLemmas
pub mod RangeLemmas
pub mod RoundLemmas
mod StandardFacts
