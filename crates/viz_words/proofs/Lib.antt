pub mod TableLemmas
pub mod NumberLemmas
pub mod ScanLemmas
pub mod NameLemmas
