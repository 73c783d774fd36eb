mod ServeLemmas
mod PhaseLemmas
mod DoneLemmas
mod RowLemmas
mod WiderLemmas
mod LaterLemmas
mod ConsLemmas
mod RunLemmas
mod TaleLemmas
mod ScriptLemmas
mod GroupLemmas
mod RoomLemmas
pub mod NumberLemmas
pub mod ReportRowLemmas
pub mod ActorLemmas
pub mod FoundLemmas
pub mod JournalLemmas
pub mod IdleLemmas
pub mod SoloLemmas
pub mod StepsLemmas
pub mod DeskLemmas
pub mod ScriptRunLemmas
pub mod CompleteLemmas
