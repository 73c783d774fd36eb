mod StandardFacts
pub mod JoinedLemmas
pub mod PartLemmas
pub mod RangeLemmas
pub mod KeptLemmas
pub mod SampleLemmas
pub mod ArithLemmas
pub mod DivisorLemmas
pub mod SumLemmas
pub mod MeanLemmas
pub mod SmoothLemmas
