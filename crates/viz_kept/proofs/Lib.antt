pub mod TrueLemmas
pub mod DividedLemmas
pub mod WholeLemmas
