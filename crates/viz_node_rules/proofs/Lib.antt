pub mod PlaceLemmas
pub mod JoinLemmas
pub mod GridLemmas
pub mod DataLemmas
pub mod FilterLemmas
pub mod MakesLemmas
pub mod SectionLemmas
