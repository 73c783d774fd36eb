mod LineLemmas
mod ReplyLemmas
mod EndLemmas
mod AnswerLemmas
mod AccountLemmas
