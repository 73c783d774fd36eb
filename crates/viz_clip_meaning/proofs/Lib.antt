pub mod OrderLemmas
pub mod SpotLemmas
pub mod SetLemmas
