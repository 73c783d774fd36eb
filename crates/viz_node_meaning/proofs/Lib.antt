pub mod RuleLemmas
pub mod DataOneLemmas
pub mod OneLemmas
pub mod ScratchLemmas
