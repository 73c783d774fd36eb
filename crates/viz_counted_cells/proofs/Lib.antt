pub mod BlockLoops
pub mod IndexLaws
pub mod Loops
pub mod MeetLemmas
pub mod NumberedLemmas
pub mod SectionLaws
