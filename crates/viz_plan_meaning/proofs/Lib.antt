pub mod PlanLemmas
pub mod VisitLemmas
pub mod UsedLemmas
pub mod LevelLemmas
pub mod OrderLemmas
pub mod NetworkLemmas
pub mod WriterLemmas
pub mod LawLemmas
