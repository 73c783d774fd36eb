pub mod BlockLoops
pub mod IndexLaws
pub mod Loops
pub mod OffsetLaws
pub mod OffsetLoops
pub mod RunLaws
pub mod Times
pub mod WideRuns
