pub mod Words
pub mod FitLemmas
pub mod PartLemmas
pub mod CommandsLemmas
pub mod SpellingLemmas
pub mod LinesLemmas
pub mod PlainLemmas
pub mod CommandRead
pub mod LineRead
pub mod ScriptRead
pub mod OnlyParts
pub mod OnlyCommands
pub mod OnlyLines
mod StandardFacts
