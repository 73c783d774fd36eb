pub mod SheetLemmas
pub mod FileLemmas
pub mod RowLemmas
