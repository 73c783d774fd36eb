pub mod WordLemmas
pub mod MixLemmas
pub mod CubeLemmas
