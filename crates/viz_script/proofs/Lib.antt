pub mod LineLemmas
pub mod BatchLemmas
pub mod ParserLemmas
pub mod NameLemmas
pub mod PhaseLemmas
