pub mod HistoryLemmas
pub mod AccountLemmas
mod MadeLemmas
pub mod ScriptLemmas
mod OnceLemmas
mod NumberLemmas
mod AloneLemmas
mod CompleteLemmas
mod AuditLemmas
mod CountLemmas
mod GivenLemmas
mod ContourLemmas
mod CutLemmas
mod SurfaceLemmas
mod StepLemmas
mod GroundLemmas
mod SumLemmas
