pub mod RequestLemmas
pub mod WalkLemmas
pub mod SourceLemmas
pub mod TaskLemmas
pub mod LeveledLemmas
pub mod FindingLemmas
pub mod LevelListLemmas
