-- Rows that stand in one list, by where each begins and ends.
use Rattle.std.specs.Prelude.{ℕ, ◌-◌, ◌≤◌, List, take, drop}
use Rattle.viz_strip.specs.declared.rows.Span.{Span}

-- the row of a span
abbrev pub row_in : List ℕ → Span → List ℕ
row_in names s = take (s.end - s.start) (drop s.start names)

-- a span lies within so many names
pub record LiesWithin (size : ℕ) (s : Span) : Type 0 where
  pub ordered : s.start ≤ s.end
  pub within : s.end ≤ size
