pub mod RowLemmas
pub mod GivesLemmas
