pub mod ToldLemmas
pub mod CallLemmas
mod StandardFacts
