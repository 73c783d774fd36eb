pub mod PaddingLemmas
pub mod EntriesLemmas
pub mod ReadersLemmas
