pub mod ShiftLemmas
pub mod FirstLemmas
pub mod LeastLemmas
pub mod LevelLemmas
pub mod SectionLemmas
