-- What contracts see of an output in memory (docs/DEFINITIONS.md, "The outside").
use Rattle.std.specs.Prelude.{ℕ, List}

-- the text, the calls that are to fail, how many were answered otherwise than Memory, how many
-- were made, and how many failed
pub record Kept : Type 0 where
  pub text : List ℕ
  pub failing : List ℕ
  pub answered : ℕ
  pub puts : ℕ
  pub faults : ℕ
