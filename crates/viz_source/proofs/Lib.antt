pub mod StreamLemmas
pub mod StepLemmas
pub mod NextLemmas
