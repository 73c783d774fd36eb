mod DoneLemmas
mod FetchLemmas
mod GroundLemmas
mod StopLemmas
mod ListLemmas
mod OnlyLemmas
mod PartLemmas
mod PlanLemmas
mod ProduceLemmas
pub mod PublishedLemmas
mod TableLemmas
mod TaskLemmas
mod UpdateLemmas
mod WholeLemmas
mod ZipLemmas
