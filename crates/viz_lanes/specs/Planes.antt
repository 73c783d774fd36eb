-- The truth values of a comparison at each number of a list, as Rust compares whole numbers, and
-- the numbers that are selected.
use Rattle.std.specs.Prelude.{ℤ, pos, Bool, ◌&&◌, List, map, int_le, if◌then◌else◌}

-- whether each number is at least v
abbrev pub at_least : ℤ → List ℤ → List Bool
at_least v xs = map (λ x. int_le v x) xs

-- whether each number is at least lo and at most hi
abbrev pub within : ℤ → ℤ → List ℤ → List Bool
within lo hi xs = map (λ x. int_le lo x && int_le x hi) xs

-- the number where it is at least lo and at most hi, and 0 elsewhere
abbrev pub kept_or_zero : ℤ → ℤ → ℤ → ℤ
kept_or_zero lo hi x = if int_le lo x && int_le x hi then x else pos 0

-- each number that is at least lo and at most hi, and 0 for every other
abbrev pub kept_within : ℤ → ℤ → List ℤ → List ℤ
kept_within lo hi xs = map (kept_or_zero lo hi) xs
