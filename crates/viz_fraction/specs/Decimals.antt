-- Fixed-point numbers: the floor of a fraction at so many decimal places
-- (docs/FORMATS-OF-FILTERS.md, "Exact points").
use Rattle.std.specs.Prelude.{ℕ, ◌^◌, ℤ, pos, ◌+ℤ◌, ◌*ℤ◌, ◌≤ℤ◌, ◌<ℤ◌}
use Rattle.std.specs.Int.{int_div_euclid}

-- m is the floor of n / w
pub record IsFloor (n w m : ℤ) : Type 0 where
  pub at_most : (m *ℤ w) ≤ℤ n
  pub above : n <ℤ ((m +ℤ pos 1) *ℤ w)

-- n / w at k decimal places, counted in the last place
unfoldable pub fixed_of : ℤ → ℤ → ℕ → ℤ
fixed_of n w k = int_div_euclid (n *ℤ pos (10 ^ k)) w

-- that number is the floor
abbrev pub FixedIsFloor : Type 0
FixedIsFloor = (n w : ℤ) (k : ℕ) → pos 0 <ℤ w → IsFloor (n *ℤ pos (10 ^ k)) w (fixed_of n w k)
