pub mod KeyLemmas
pub mod PairLemmas
