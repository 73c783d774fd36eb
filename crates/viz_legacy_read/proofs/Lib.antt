pub mod FieldLoops
pub mod HeaderLaws
pub mod FileLaws
pub mod ReadLaws
