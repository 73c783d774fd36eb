pub mod PlaneLemmas
pub mod NoneLemmas
pub mod TetsLemmas
pub mod MoveLemmas
