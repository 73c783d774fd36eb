pub mod MatchLemmas
pub mod HandedLemmas
pub mod MadeLemmas
pub mod AnswerLemmas
