pub mod ExactLemmas
pub mod FoldLemmas
pub mod DividedLemmas
pub mod PortLemmas
pub mod RowLemmas
pub mod MarkLemmas
pub mod ShareLemmas
