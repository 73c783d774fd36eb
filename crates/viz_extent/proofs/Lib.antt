pub mod NumberingLemmas
pub mod PartLemmas
pub mod SlabLemmas
pub mod StandardFacts
