-- Counts in an attribute part, and where each is at fault (docs/FORMATS-OF-FILES.md, "Attribute
-- parts").
use Rattle.std.specs.Prelude.{ℕ, ℤ, pos, negsuc, ◌^◌, Bool, false, ◌&&◌, ◌==◌, nat_le, nat_lt}
use Rattle.std.specs.Prelude.{unsigned_abs}
use Rattle.viz_lex.specs.declared.fault.FileKind.TheVariants.{Count, TooMany}
use Rattle.viz_lex.specs.Reading.{fault_at}
use Rattle.viz_lex.specs.Steps.{is_beside}
use Rattle.viz_lex.specs.Rules.{Rule, gives, demand, beside, ◌>>=◌}
use Rattle.viz_lex.specs.Items.{number}

-- the number is n
abbrev pub is_number : ℕ → ℤ → Bool
is_number n (pos m) = m == n
is_number n (negsuc m) = false

-- the number is at least n
abbrev pub is_at_least : ℕ → ℤ → Bool
is_at_least n (pos m) = nat_le n m
is_at_least n (negsuc m) = false

-- the number is below n
abbrev pub is_below : ℕ → ℤ → Bool
is_below n z = nat_lt (unsigned_abs z) n

-- a count of at least so much, and of at most 2^31 - 1
abbrev pub count_from : ℕ → Rule ℕ
count_from least = do
  n ← number
  demand (is_at_least least n.1) (fault_at Count n.0) (
      demand (is_below (2 ^ 31) n.1) (fault_at TooMany n.0) (gives (unsigned_abs n.1)))

-- from 1 to 3
abbrev pub dimension : Rule ℕ
dimension = do
  n ← number
  demand (is_at_least 1 n.1 && is_below 4 n.1) (fault_at Count n.0) (gives (unsigned_abs n.1))

-- the number of points, or of cells, again
abbrev pub same_count : ℕ → Rule (Unit {0})
same_count count = do
  n ← number
  demand (is_number count n.1) (fault_at Count n.0) (gives tt)

-- how many components a value of SCALARS has: 1 where no word stands on the same line
abbrev pub components : Rule ℕ
components = beside is_beside (count_from 1) (gives 1)
