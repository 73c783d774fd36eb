-- The text of an output, and a text in parts (docs/DEFINITIONS.md, "The outside").
use Rattle.std.specs.Prelude.{◌≡◌, ℕ, List, ◌++◌, take}
use Rattle.std.specs.List.{flat_map}

-- parts of a text, one after the other
abbrev pub joined : List (List ℕ) → List ℕ
joined parts = flat_map (λ part. part) parts

-- some first bytes were appended
abbrev pub AppendsPrefix : List ℕ → List ℕ → List ℕ → Type 0
AppendsPrefix old bytes new = (kept : ℕ) × (new ≡ old ++ take kept bytes)
