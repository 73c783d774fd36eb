pub mod TableLemmas
pub mod PlaceLemmas
pub mod AboveLemmas
pub mod ToldLemmas
